pub mod Runs
pub mod Overlays
pub mod Calls
pub mod Writes
pub mod Ups
pub mod Relations
pub mod Reaches
pub mod Owners
