-- Inner vocabulary: what the functions of this crate ask. Nobody has to believe it to believe an entry point's promise.
use Rattle.std.specs.Prelude.{List, ℕ, ◌+◌, ◌^◌, ◌≤◌, ◌<◌, length, get_or}
use Rattle.pooler.specs.declared.Numbering.{Numbering}

-- numbers that stay 32-bit numbers when they go up by n
abbrev pub Renumberable : ℕ → List ℕ → Type 0
Renumberable n numbers = (i : ℕ) → i < length numbers → get_or numbers i 0 + n < 2 ^ 32

-- what laying them from a cell on asks
pub record LayAsked (to : Numbering) (numbers : List ℕ) (at : ℕ) (cells : List ℕ) : Type 0 where
  pub low : Renumberable to.n numbers
  pub room : at + length numbers ≤ length cells

-- what two lists, one after the other, ask
pub record PutAsked (to : Numbering) (first second cells : List ℕ) : Type 0 where
  pub low : Renumberable to.n second
  pub room : length first + length second ≤ length cells
