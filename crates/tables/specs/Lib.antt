pub mod Table
pub mod Inner
