pub mod Lines
pub mod Answers
pub mod Boards
pub mod Tables
pub mod Examining
