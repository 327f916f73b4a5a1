pub mod Emitting
pub mod Paying
pub mod Whole
