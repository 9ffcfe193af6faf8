pub mod Behind
pub mod Counts
pub mod Held
pub mod Played
