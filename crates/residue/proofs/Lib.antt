pub mod Width
pub mod Products
mod Upper
mod Quotient
mod Correction
