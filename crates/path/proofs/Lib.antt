pub mod Demand2
pub mod Figures
pub mod Promised
pub mod Demand3
pub mod Whole
