pub mod Rows
pub mod Trials
pub mod Refusals
pub mod Orders
pub mod Places
pub mod Files
pub mod Choices
