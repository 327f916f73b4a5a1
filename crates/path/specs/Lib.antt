pub mod Path
pub mod Demand3
