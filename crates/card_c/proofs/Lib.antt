pub mod Offers
pub mod Owned
pub mod Counted
pub mod OverWindow
pub mod Fillings
