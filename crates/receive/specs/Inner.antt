-- Inner vocabulary: what check and then run answer and leave, as one part of the path. Nobody has to believe it to believe an entry point's promise.
use Rattle.std.specs.Prelude.{◌≡◌, List, ℕ, length}
use Rattle.chain.specs.Verdict.{◌then◌, Answer, answer, on_fine}
use Rattle.chain.specs.Chain.{counts}
use Rattle.chain.specs.declared.Step.{Step}
use Rattle.verify.specs.Verify.{verify_rule, verify_scratch}
use Rattle.run.specs.Run.{run_rule, run_values, run_figures}

-- a chain held against a sheet, then run with a modulus and bases
module _ (p : ℕ) (steps : List Step) (outputs amounts : List ℕ) (scratch m : ℕ) (bases : List ℕ) where
  unfoldable pub receive_answer : ℕ → ℕ → Answer
  receive_answer values_lent figures_lent =
      answer (verify_rule p steps outputs amounts scratch then run_rule p steps outputs m bases values_lent figures_lent) (counts steps)

  unfoldable pub receive_values : ℕ → List ℕ → List ℕ
  receive_values figures_lent old = on_fine (verify_rule p steps outputs amounts scratch) (run_values p steps outputs m bases figures_lent old) old

  unfoldable pub receive_figures : ℕ → List ℕ → List ℕ
  receive_figures values_lent old = on_fine (verify_rule p steps outputs amounts scratch) (run_figures p steps outputs m bases values_lent old) old

-- the answer and the three slices, which were scratch, values and figures before
pub record Received (p : ℕ) (steps : List Step) (outputs amounts : List ℕ) (m : ℕ) (bases scratch values figures : List ℕ) (a : Answer)
    (scratch' values' figures' : List ℕ) : Type 0 where
  pub answered : a ≡ receive_answer p steps outputs amounts (length scratch) m bases (length values) (length figures)
  pub scratch_left : scratch' ≡ verify_scratch p steps outputs amounts scratch
  pub values_left : values' ≡ receive_values p steps outputs amounts (length scratch) m bases (length figures) values
  pub figures_left_lem : figures' ≡ receive_figures p steps outputs amounts (length scratch) m bases (length values) figures
