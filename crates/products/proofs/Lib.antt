pub mod Sound
pub mod Product
pub mod Emitted
pub mod Emitters
