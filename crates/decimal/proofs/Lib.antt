pub mod Decimal
pub mod Putting
pub mod Choices
pub mod LastByte
