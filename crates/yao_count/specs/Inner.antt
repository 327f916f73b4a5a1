-- Inner vocabulary: how large the counts of this crate grow; nobody has to believe it to believe an entry point's promise.
use Rattle.std.specs.Prelude.{ℕ, ◌+◌, ◌*◌}
use Rattle.chain.specs.Chain.{most_columns}

-- the most steps of an amount (digits below 256, and at most 40 of them) and of a payslip
abbrev pub amount_most : ℕ
amount_most = 300

abbrev pub yao_payslip_most : ℕ
yao_payslip_most = (amount_most + 1) * most_columns
