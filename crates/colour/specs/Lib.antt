pub mod Colour
pub mod Laws
