pub mod Partition
pub mod Method
