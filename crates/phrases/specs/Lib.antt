pub mod Phrases
pub mod Samples
