pub mod Yao
pub mod Inner
