-- Inner vocabulary: what the functions of this crate ask and leave. Nobody has to believe it to believe an entry point's promise.
use Rattle.std.specs.Prelude.{◌≡◌, cond, List, ℕ, zero, suc, ◌+◌, ◌*◌, ◌<◌, length, get_or, take, drop, set, replicate}
use Rattle.chain.specs.Tests.{◌=?◌}
use Rattle.chain.specs.Verdict.{Verdict, ◌then◌, refuse_at, Answer, answer}
use Rattle.chain.specs.Written.{over}
use Rattle.chain.specs.Chain.{most_steps, shape_rule}
use Rattle.chain.specs.declared.Step.{Step}
use Rattle.sheet.specs.Sheet.{amounts_rule}
use Rattle.verify.specs.Verify.{earlier, first_over, first_other}
use Rattle.verify.specs.declared.Found.{Found}

-- before the check's n steps: 1, 4, 2
unfoldable pub start_rule : ℕ → ℕ → ℕ → List ℕ → Verdict
start_rule p q n amounts = shape_rule most_steps p q n then amounts_rule p q amounts

-- value 0 and the bases as column c has them, over the front
unfoldable pub column_start : ℕ → ℕ → List ℕ → List ℕ
column_start p c old = set (over (replicate (p + 1) 0) old) (c + 1) 1

-- the steps before a place, all of them where it is 0
unfoldable pub steps_before : ℕ → List Step → List Step
steps_before zero steps = steps
steps_before (suc s) steps = take s steps

-- A column summed, where f gives the values of steps: r is the place of the first that is too large, 0 for none. The values before it stand over the
-- front of what the scratch held.
pub record SummedUp (p : ℕ) (f : List Step → List ℕ) (steps : List Step) (old new : List ℕ) (r : ℕ) : Type 0 where
  pub place : r ≡ first_over 1 (drop (p + 1) (f steps))
  pub cells : new ≡ over (f (steps_before r steps)) old

-- what the comparison of column c asks
pub record Comparable (p c : ℕ) (outputs amounts : List ℕ) (room : ℕ) : Type 0 where
  pub column : c < p
  pub amounts_fit : length amounts ≡ p * length outputs
  pub outputs_within : (i : ℕ) → i < length outputs → get_or outputs i 0 < room

-- what is found once column c is taken up, whose sums gave a place
unfoldable pub taken_up : Found → ℕ → ℕ → ℕ → List ℕ → List ℕ → List ℕ → Found
taken_up f place p c amounts scratch outputs =
    record {
      large = earlier f.large place;
      other = cond (earlier f.large place =? 0) (earlier f.other (first_other p c amounts scratch 0 outputs)) f.other;
    }

-- 13, then 14
abbrev pub found_in : Found → Verdict
found_in f = refuse_at 13 f.large then refuse_at 14 f.other

-- all columns held: what was found, and that no cell from `top` on changed
pub record ColumnsHeld (found wanted : Verdict) (top : ℕ) (old new : List ℕ) : Type 0 where
  pub verdict : found ≡ wanted
  pub past : drop top new ≡ drop top old

-- the check's end: the cells below `top` cleared, and the answer to what was found, with what is told of a chain that passed
pub record Finished (found : Verdict) (passed : List ℕ) (top : ℕ) (old new : List ℕ) (r : Answer) : Type 0 where
  pub answered : r ≡ answer found passed
  pub cleared : new ≡ over (replicate top 0) old
