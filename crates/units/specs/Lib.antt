pub mod Power
pub mod Word
