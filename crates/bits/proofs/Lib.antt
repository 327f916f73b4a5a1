pub mod Parts
pub mod Values
pub mod Fields
pub mod Pack
pub mod Filed
pub mod Take
pub mod Put
pub mod Lengthened
