pub mod Lines
pub mod Sets
