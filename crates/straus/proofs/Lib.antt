pub mod Bases
pub mod Horner
pub mod Payslip
pub mod Zero
pub mod Straus
pub mod Overlaying
