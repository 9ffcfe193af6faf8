pub mod Lookup
pub mod Marks
