pub mod Straus
pub mod Inner
