pub mod Counted
pub mod Places
pub mod Parts
pub mod Poolable
pub mod Numbers
pub mod Squarings
pub mod Left
