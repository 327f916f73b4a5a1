pub mod Lists
pub mod Clumps
pub mod Levels
pub mod Inner
