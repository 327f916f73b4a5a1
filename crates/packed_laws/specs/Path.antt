-- From the host's bytes to figures: the amounts that were read from fields are a sheet, and of that sheet the whole path keeps what it promises.
use Rattle.std.specs.Prelude.{◌≡◌, List, ℕ, ◌+◌, ◌*◌, ◌<◌}
use Rattle.chain.specs.Verdict.{fine}
use Rattle.sheet.specs.Sheet.{amount, sheet_rule}
use Rattle.packed.specs.Field.{field_bytes, amount_of, field_from}
use Rattle.path.specs.Path.{Lent, path_answer, path_leaves}
use Rattle.path.specs.Demand3.{Demand3}

-- what holds of amounts that were read from bytes
pub record PackedPath (p q : ℕ) (bytes amounts : List ℕ) : Type 0 where
  -- they are a sheet
  pub sheet_fine : sheet_rule p q amounts ≡ fine
  -- whose amount of payslip i in column c is what the field there says
  pub amounts_said : (i c : ℕ) → i < q → c < p → amount p amounts i c ≡ amount_of (field_from bytes (field_bytes * (i * p + c)))
  -- and the five calls do with it what demand 3 asks
  pub demanded : (method k m : ℕ) (bases : List ℕ) (l : Lent)
      → Demand3 p q amounts method k m bases l (path_answer p q amounts method k l m bases) (path_leaves p q amounts method k l m bases)
