pub mod Paying
pub mod Whole
