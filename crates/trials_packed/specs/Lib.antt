pub mod Fields
pub mod FieldRefusals
