pub mod Parts
pub mod Partition
pub mod Ceiling
pub mod Zero
pub mod Right
