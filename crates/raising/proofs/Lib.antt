pub mod Raising
pub mod Joining
