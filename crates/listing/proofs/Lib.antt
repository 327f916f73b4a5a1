pub mod Lines
pub mod Tables
pub mod Judged
pub mod Listed
