pub mod Parts
pub mod Lookups
pub mod Scatter
pub mod Call
pub mod Effect
pub mod Wholes
pub mod Follows
