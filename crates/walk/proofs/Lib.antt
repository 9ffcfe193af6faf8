pub mod Lookups
pub mod Walks
pub mod Marking
