pub mod Vectors
pub mod Emitting
pub mod Whole
