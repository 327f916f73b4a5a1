-- Inner vocabulary: how large the counts of this crate grow; nobody has to believe it to believe an entry point's promise.
use Rattle.std.specs.Prelude.{ℕ}

-- the most steps that a payslip takes: its squarings are below 32, and so are its other steps
abbrev pub straus_payslip_most : ℕ
straus_payslip_most = 62
