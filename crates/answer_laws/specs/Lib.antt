pub mod Squarings
pub mod Uncut
