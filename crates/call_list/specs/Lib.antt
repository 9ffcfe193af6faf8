pub mod Record
pub mod Model
pub mod Law
pub mod Follow
pub mod Played
