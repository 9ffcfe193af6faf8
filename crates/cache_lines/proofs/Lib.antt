pub mod Changes
pub mod Finds
pub mod Holds
