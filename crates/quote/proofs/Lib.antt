pub mod Fits
pub mod ByMethod
pub mod Right
pub mod Tariff
pub mod Answers
