pub mod Tabling
pub mod Making
