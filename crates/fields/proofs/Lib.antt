pub mod Putting
pub mod Taking
