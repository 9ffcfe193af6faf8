pub mod Effects
pub mod Playing
