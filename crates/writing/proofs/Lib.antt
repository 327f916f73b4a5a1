pub mod Writing
pub mod WriteAnswers
pub mod Told
