pub mod Ceilings
