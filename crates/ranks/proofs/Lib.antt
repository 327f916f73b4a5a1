pub mod Lists
pub mod Marking
pub mod Numbering
pub mod Ranking
pub mod Ranks
