pub mod Reading
pub mod Outcomes
