-- Inner vocabulary: what the functions of this crate ask and leave, and what those of others ask of a chain. Nobody has to believe it to believe an entry
-- point's promise.
use Rattle.std.specs.Prelude.{◌≡◌, List, [], ◌∷◌, ℕ, ◌+◌, ◌*◌, ◌≤◌, ◌<◌, length, get_or}
use Rattle.chain.specs.Verdict.{Verdict, fine, Answer, answer}
use Rattle.chain.specs.Chain.{most_columns, most_payslips, by, steps_rule, outputs_rule, one, is_squaring}
use Rattle.chain.specs.declared.Step.{Step}

-- step s of a flat list, counted from 0
unfoldable pub step_at : List ℕ → ℕ → Step
step_at l s = by (get_or l (2 * s) 0) (get_or l (2 * s + 1) 0)

-- sizes that are not too large
pub record SizesLow (p q : ℕ) : Type 0 where
  pub p_low : p ≤ most_columns
  pub q_low : q ≤ most_payslips

-- a chain whose steps are in order, with a cell for each of its values
pub record StepsSound (p : ℕ) (steps : List Step) (cells : List ℕ) : Type 0 where
  pub p_low : p ≤ most_columns
  pub steps_fine : steps_rule p 1 steps ≡ fine
  pub room : p + length steps < length cells

-- and whose outputs are numbers of its values
pub record ChainSound (p : ℕ) (steps : List Step) (outputs cells : List ℕ) : Type 0 where
  pub steps_sound : StepsSound p steps cells
  pub outputs_fine : outputs_rule (p + length steps) 1 outputs ≡ fine

-- a cell for each of the outputs, which are numbers of so many values
pub record FiguresAble (outputs : List ℕ) (values figures : ℕ) : Type 0 where
  pub figures_fit : length outputs ≤ figures
  pub outputs_within : (i : ℕ) → i < length outputs → get_or outputs i 0 < values

-- what a rule finds, and a number counted on the way where it finds nothing
unfoldable pub counted_by : Verdict → ℕ → Answer
counted_by v number = answer v (number ∷ [])

-- r is 1 for a squaring, else 0, of a step whose operands are in order
pub record SquaringCounted (x : Step) (r : ℕ) : Type 0 where
  pub is : x.second ≤ x.first → r ≡ one is_squaring x
  pub low : r ≤ 1
