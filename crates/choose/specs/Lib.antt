pub mod Choose
pub mod Answers
pub mod Inner
