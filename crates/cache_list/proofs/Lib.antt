pub mod Counts
pub mod Helds
pub mod Once
pub mod Playing
pub mod Sets
