pub mod Parts
pub mod Lengths
pub mod CacheCalls
pub mod Goings
