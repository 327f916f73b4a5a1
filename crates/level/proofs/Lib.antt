pub mod Ranked
pub mod Cutting
pub mod Next
pub mod Rises
