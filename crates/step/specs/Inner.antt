-- Inner vocabulary: a step counted where it is legal. Nobody has to believe it to believe an entry point's promise.
use Rattle.std.specs.Prelude.{◌≡◌, ℕ, ◌≤◌}
use Rattle.chain.specs.Verdict.{Verdict, fine, refused}
use Rattle.chain.specs.Chain.{step_rule}
use Rattle.chain.specs.declared.Step.{Step}

-- 1 where a rule finds nothing, else 0
unfoldable pub passed : Verdict → ℕ
passed fine = 1
passed (refused n s) = 0

-- r is 1 for a step that may make value v, whatever its place, else 0
pub record LegalCounted (v : ℕ) (x : Step) (r : ℕ) : Type 0 where
  pub is : (s : ℕ) → r ≡ passed (step_rule v s x)
  pub low : r ≤ 1
