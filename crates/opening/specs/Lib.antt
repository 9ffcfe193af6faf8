pub mod Reason
pub mod Opening
pub mod Board
