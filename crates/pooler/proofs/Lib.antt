pub mod Laid
pub mod Pooling
