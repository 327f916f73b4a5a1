pub mod Method
pub mod Fits
