pub mod Marks
pub mod Spots
