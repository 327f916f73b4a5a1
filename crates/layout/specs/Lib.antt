pub mod Layout
pub mod File
pub mod Widths
pub mod Inner
