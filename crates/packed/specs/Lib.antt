pub mod Field
pub mod Packed
pub mod Inner
