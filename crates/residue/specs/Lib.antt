pub mod Residue
pub mod Inner
