pub mod Ranges
pub mod Methods
