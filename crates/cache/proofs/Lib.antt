pub mod Copies
pub mod Turns
