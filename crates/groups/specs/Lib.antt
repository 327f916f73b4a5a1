pub mod Groups
pub mod Inner
