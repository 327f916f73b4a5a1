pub mod Payslips
pub mod Right
pub mod Powers
pub mod Paying
pub mod Filling
pub mod Columns
