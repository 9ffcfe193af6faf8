pub mod Prices
pub mod Text
