pub mod Compile
pub mod Inner
