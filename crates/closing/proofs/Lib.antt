pub mod Places
pub mod Closing
