pub mod Clumped
