pub mod Promises
pub mod Cells
pub mod Under
