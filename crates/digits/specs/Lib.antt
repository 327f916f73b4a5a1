pub mod Range
pub mod Digits
pub mod Inner
