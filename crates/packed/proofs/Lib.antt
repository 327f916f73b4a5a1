pub mod Field
pub mod Judged
pub mod Fields
pub mod Given
