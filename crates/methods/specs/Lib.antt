pub mod Powers
pub mod Method
pub mod Inner
