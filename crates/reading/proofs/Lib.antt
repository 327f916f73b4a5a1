pub mod Judging
pub mod ReadAnswers
pub mod Told
pub mod Good
