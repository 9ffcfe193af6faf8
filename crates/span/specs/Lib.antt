pub mod Runs
pub mod Span
