pub mod Laying
pub mod Keying
pub mod Runs
pub mod Parting
pub mod Rowing
pub mod Cutting
