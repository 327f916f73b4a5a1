pub mod Kinds
pub mod Accepted
pub mod Back
pub mod Path
