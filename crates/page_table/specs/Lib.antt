pub mod Entry
pub mod Table
pub mod Walk
pub mod Class
pub mod Tlb
pub mod Ready
