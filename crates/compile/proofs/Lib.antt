pub mod Fits
pub mod Answers
pub mod Filled
pub mod ByMethod
