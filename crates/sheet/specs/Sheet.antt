-- Sheets (Spec 1).
use Rattle.std.specs.Prelude.{List, ℕ, ◌+◌, ◌*◌, length, get_or}
use Rattle.chain.specs.Tests.{◌≠?◌}
use Rattle.chain.specs.Verdict.{Verdict, ◌then◌, refuse_if}
use Rattle.chain.specs.Chain.{sizes_rule}

-- Spec 1.2: the amount of payslip i in column c, both counted from 0
abbrev pub amount : ℕ → List ℕ → ℕ → ℕ → ℕ
amount p amounts i c = get_or amounts (i * p + c) 0

-- Spec 10.1: refusal 2
unfoldable pub amounts_rule : ℕ → ℕ → List ℕ → Verdict
amounts_rule p q amounts = refuse_if (length amounts ≠? p * q) 2 0

-- Spec 10.2: 1, then 2
unfoldable pub sheet_rule : ℕ → ℕ → List ℕ → Verdict
sheet_rule p q amounts = sizes_rule p q then amounts_rule p q amounts
