pub mod Models
pub mod Laws
pub mod Follows
pub mod Playing
