pub mod SetUp
pub mod Promise
pub mod OverCache
pub mod UnderCache
