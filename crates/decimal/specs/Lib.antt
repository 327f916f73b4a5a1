pub mod Decimal
pub mod Inner
