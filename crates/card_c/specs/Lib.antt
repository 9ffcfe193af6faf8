pub mod Answer
pub mod Setup
pub mod Called
pub mod Bytes
