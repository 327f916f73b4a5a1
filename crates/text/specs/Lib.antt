pub mod Text
pub mod Inner
pub mod Samples
