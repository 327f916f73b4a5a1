pub mod Verify
pub mod Inner
