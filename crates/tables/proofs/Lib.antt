pub mod Table
pub mod Entries
pub mod Tabling
mod Trailing
mod Rest
mod Rows
