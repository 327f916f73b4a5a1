pub mod Gather
pub mod Rounds
pub mod Sweeping
pub mod Cost
pub mod Zero
pub mod Payslip
pub mod Yao
pub mod Measuring
