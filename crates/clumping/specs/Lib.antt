pub mod Clumping
