pub mod Spoilts
