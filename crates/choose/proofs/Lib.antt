pub mod Preferring
pub mod Lent
pub mod Files
pub mod Choices
