pub mod Effect
pub mod Played
