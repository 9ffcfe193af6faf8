pub mod Classes
pub mod Entries
pub mod Tlbs
