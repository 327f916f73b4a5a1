pub mod Pools
pub mod PoolRefusals
