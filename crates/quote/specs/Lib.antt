pub mod ByMethod
pub mod Tariff
pub mod Inner
