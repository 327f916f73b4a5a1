pub mod Parts
pub mod Clumping
pub mod Sizes
