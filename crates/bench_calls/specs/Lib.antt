pub mod Image
pub mod Lines
