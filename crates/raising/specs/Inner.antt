-- Inner vocabulary: rows of two kinds made into one, the second's numbers raised; nobody has to believe it to believe an entry point's promise.
use Rattle.std.specs.Prelude.{◌≡◌, List, ◌++◌, map, ℕ, ◌+◌, ◌-◌, ◌^◌, ◌≤◌, ◌<◌, length, get_or}
use Rattle.std.proofs.Math.Seq.{slice}
use Rattle.digits.specs.Range.{list_to}
use Rattle.rows.specs.Inner.{row_at, Formed, Apart, RowsLaid}

-- row j of the one kind, and behind it row j of the other, each number raised by k
abbrev pub raised_row : List ℕ → ℕ → ℕ → ℕ → ℕ → List ℕ
raised_row s front back k j = row_at s front j ++ map (λ i. k + i) (row_at s back j)

-- m rows of each kind before cell `to`, and room for the rows of both together from there on
pub record RaiseAsked (s : List ℕ) (front back m k to : ℕ) : Type 0 where
  pub front_formed : Formed s front m (get_or s (front + m) 0)
  pub back_formed : Formed s back m (get_or s (back + m) 0)
  pub front_before : get_or s (front + m) 0 ≤ to
  pub back_before : get_or s (back + m) 0 ≤ to
  pub low : (i : ℕ) → back + m + 1 ≤ i → i < get_or s (back + m) 0 → k + get_or s i 0 < 2 ^ 32
  pub room : to + m + 1 + (get_or s (front + m) 0 - (front + m + 1)) + (get_or s (back + m) 0 - (back + m + 1)) ≤ length s
  pub fits : length s < 2 ^ 32

-- the rows of both together are laid at a cell, up to cell e
pub record Raised (front back m k to e : ℕ) (old new : List ℕ) : Type 0 where
  pub laid : RowsLaid to e (list_to m (raised_row old front back k)) old new
  pub end : e ≡ to + m + 1 + (get_or old (front + m) 0 - (front + m + 1)) + (get_or old (back + m) 0 - (back + m + 1))

-- the cells from .. to, none of them too large if raised by k, and room for them from r on, behind them
pub record RowAsked (s : List ℕ) (from to k r : ℕ) : Type 0 where
  pub order : from ≤ to
  pub before : to ≤ r
  pub low : (i : ℕ) → from ≤ i → i < to → k + get_or s i 0 < 2 ^ 32
  pub room : r + (to - from) ≤ length s

-- they are laid there, each raised by k, up to cell e
pub record RowRaised (from to k r e : ℕ) (old new : List ℕ) : Type 0 where
  pub apart : Apart r e old new
  pub end : e ≡ r + (to - from)
  pub are : slice r e new ≡ map (λ i. k + i) (slice from to old)
