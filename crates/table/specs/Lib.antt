pub mod Table
pub mod Samples
