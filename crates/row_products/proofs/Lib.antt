pub mod Multiplying
pub mod Reading
pub mod Chaining
pub mod Separating
pub mod Joining
