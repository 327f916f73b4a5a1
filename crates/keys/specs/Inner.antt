-- Inner vocabulary: a clump's key, one number by which clumps are told apart and put in order; nobody has to believe it to believe an entry point's promise.
use Rattle.std.specs.Prelude.{◌≡◌, cond, List, [], ◌∷◌, ℕ, zero, suc, ◌+◌, ◌-◌, ◌*◌, ◌/◌, ◌%◌, ◌^◌, ◌≤◌, ◌<◌, length, get_or}
use Rattle.std.proofs.Math.Seq.{slice}
use Rattle.chain.specs.Tests.{◌≤?◌}
use Rattle.chain.specs.Written.{laid}
use Rattle.digits.specs.Range.{sum_to, list_to}
use Rattle.clumps.specs.Clumps.{most_part}
use Rattle.rows.specs.Inner.{RowsLaid}

-- numbers from .. to, each above the one before it
abbrev pub Climbs : ℕ → ℕ → List ℕ → Type 0
Climbs from to [] = Unit
Climbs from to (x ∷ u) = (from ≤ x) × (x < to) × Climbs (x + 1) to u

-- the lower a number, the more it weighs: more than all above it and below `to` together
abbrev pub weight_of : ℕ → List ℕ → ℕ
weight_of to [] = 0
weight_of to (x ∷ u) = 2 ^ (to - 1 - x) + weight_of to u

-- the numbers of a weight, of the last n below `to`
abbrev pub members_of : ℕ → ℕ → ℕ → List ℕ
members_of to zero w = []
members_of to (suc n) w = cond (2 ^ n ≤? w) ((to - 1 - n) ∷ members_of to n (w - 2 ^ n)) (members_of to n w)

-- the key of numbers in part k of a, and the numbers of a key
abbrev pub key_of : ℕ → ℕ → List ℕ → ℕ
key_of a k u = (k + 1) * 2 ^ a - 1 - weight_of ((k + 1) * a) u

abbrev pub clump_of : ℕ → ℕ → List ℕ
clump_of a x = members_of ((x / 2 ^ a + 1) * a) a (2 ^ a - 1 - x % 2 ^ a)

-- the key of a clump, whose part is that of its first number
abbrev pub key_in : ℕ → List ℕ → ℕ
key_in a u = key_of a (get_or u 0 0 / a) u

-- numbers of a part that ends before `limit`, in the cells from .. to; they weigh no more than `top`
pub record KeyAsked (s : List ℕ) (from to limit top : ℕ) : Type 0 where
  pub rises : from ≤ to
  pub inside : to ≤ length s
  pub climbs : Climbs (limit - most_part) limit (slice from to s)
  pub light : weight_of limit (slice from to s) ≤ top

-- the last n numbers below `to`, few of them, and room for those of a weight
pub record WeightAsked (s : List ℕ) (to n w r : ℕ) : Type 0 where
  pub below : n ≤ to
  pub few : n ≤ most_part
  pub small : to < 2 ^ 32
  pub room : r + length (members_of to n w) ≤ length s

-- numbers are laid from a cell on, up to cell e
pub record NumbersLaid (r e : ℕ) (numbers old new : List ℕ) : Type 0 where
  pub are : new ≡ laid r numbers old
  pub end : e ≡ r + length numbers

-- a key of parts of a, few of them, and room for its clump
pub record ClumpAsked (s : List ℕ) (key a r : ℕ) : Type 0 where
  pub some : 1 ≤ a
  pub few : a ≤ most_part
  pub small : (key / 2 ^ a + 1) * a < 2 ^ 32
  pub room : r + length (clump_of a key) ≤ length s

-- the clump of the key in a cell
abbrev pub clump_in : ℕ → List ℕ → ℕ → List ℕ
clump_in a s i = clump_of a (get_or s i 0)

-- k keys at a cell, and room for the rows of their clumps at another, behind them
pub record ClumpsAsked (s : List ℕ) (keys k a to : ℕ) : Type 0 where
  pub some : 1 ≤ a
  pub few : a ≤ most_part
  pub before : keys + k ≤ to
  pub small : (j : ℕ) → j < k → (get_or s (keys + j) 0 / 2 ^ a + 1) * a < 2 ^ 32
  pub room : to + k + 1 + sum_to k (λ j. length (clump_in a s (keys + j))) ≤ length s
  pub fits : length s < 2 ^ 32

-- rows of clumps are laid at a cell, up to cell e
pub record ClumpsLaid (keys k a to e : ℕ) (old new : List ℕ) : Type 0 where
  pub laid : RowsLaid to e (list_to k (λ j. clump_in a old (keys + j))) old new
  pub end : e ≡ to + k + 1 + sum_to k (λ j. length (clump_in a old (keys + j)))
