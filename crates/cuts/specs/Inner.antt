-- Inner vocabulary: rows cut into clumps and overflow; nobody has to believe it to believe an entry point's promise.
use Rattle.std.specs.Prelude.{◌≡◌, ◌⊎◌, List, map, ℕ, ◌+◌, ◌-◌, ◌*◌, ◌/◌, ◌^◌, ◌≤◌, ◌<◌, length, get_or}
use Rattle.std.proofs.Math.Seq.{slice}
use Rattle.digits.specs.Range.{list_to}
use Rattle.clumps.specs.Clumps.{level, most_part, taken, remainder, clumps_of, overflow_of}
use Rattle.rows.specs.Inner.{members_at, row_at, Formed, Rising, Apart}
use Rattle.keys.specs.Inner.{Climbs, weight_of, key_in, KeyAsked}
use Rattle.cuts.specs.declared.Pair.{Pair}
use Rattle.cuts.specs.declared.Ends.{Ends}

-- m rows of rising numbers, and room for as many rows of keys and of what overflows, away from them
pub record CutAsked (s : List ℕ) (at m : ℕ) (l : Pair) (keys rest : ℕ) : Type 0 where
  pub formed : Formed s at m (get_or s (at + m) 0)
  pub rising : (j : ℕ) → j < m → Rising (2 ^ 24) (row_at s at j)
  pub some : 2 ≤ l.b
  pub within : l.b ≤ l.a
  pub few : l.a ≤ most_part
  pub keys_room : keys + m + 1 + members_at s at m / l.b ≤ rest
  pub rest_room : rest + m + 1 + members_at s at m ≤ length s
  pub away : (get_or s (at + m) 0 ≤ keys) ⊎ (rest + m + 1 + members_at s at m ≤ at)
  pub fits : length s < 2 ^ 32

-- the rows are cut: of each the keys of its clumps stand in a row at `keys`, and its overflow in a row at `rest`
pub record RowsCut (at m : ℕ) (l : Pair) (keys rest : ℕ) (e : Ends) (old new : List ℕ) : Type 0 where
  pub apart : Apart keys e.rest old new
  pub keys_formed : Formed new keys m e.keys
  pub rest_formed : Formed new rest m e.rest
  pub whole : l.b * (e.keys - (keys + m + 1)) + (e.rest - (rest + m + 1)) ≡ members_at old at m
  pub keys_low : e.keys ≤ rest
  pub clumps : (n j : ℕ) → j < m → Rising n (row_at old at j) → row_at new keys j ≡ map (key_in l.a) (clumps_of (level l.a l.b) n (row_at old at j))
  pub overflow : (n j : ℕ) → j < m → Rising n (row_at old at j) → row_at new rest j ≡ overflow_of (level l.a l.b) n (row_at old at j)

-- the numbers below `limit` end at cell e, of those in the cells i .. to
pub record RunEnds (s : List ℕ) (i to limit e : ℕ) : Type 0 where
  pub after : i ≤ e
  pub within : e ≤ to
  pub below : (c : ℕ) → i ≤ c → c < e → get_or s c 0 < limit
  pub stops : e < to → limit ≤ get_or s e 0

-- copying the cells from .. to to r on asks that they end before r, or begin at r or behind it; they are copied up to cell e
pub record CopyAsked (s : List ℕ) (from to r : ℕ) : Type 0 where
  pub order : from ≤ to
  pub inside : to ≤ length s
  pub room : r + (to - from) ≤ length s
  pub away : (to ≤ r) ⊎ (r ≤ from)

pub record Copied (from to r e : ℕ) (old new : List ℕ) : Type 0 where
  pub apart : Apart r e old new
  pub end : e ≡ r + (to - from)
  pub are : slice r e new ≡ slice from to old

-- the numbers b at a time from a cell on: clump m, counted from 0
abbrev pub clump_from : List ℕ → ℕ → ℕ → ℕ → List ℕ
clump_from s from b m = slice (from + m * b) (from + m * b + b) s

-- clumps of b in the cells from .. to, of a part that ends before `limit` and has `top` for its last key; and room for their keys from r on
pub record RunAsked (s : List ℕ) (from to b limit top r : ℕ) : Type 0 where
  pub some : 1 ≤ b
  pub order : from ≤ to
  pub even : (to - from) / b * b ≡ to - from
  pub inside : to ≤ length s
  pub room : r + (to - from) / b ≤ length s
  pub away : (to ≤ r) ⊎ (r + (to - from) / b ≤ from)
  pub asked : (m : ℕ) → m < (to - from) / b → KeyAsked s (from + m * b) (from + m * b + b) limit top

pub record RunCut (from to b limit top r e : ℕ) (old new : List ℕ) : Type 0 where
  pub apart : Apart r e old new
  pub end : e ≡ r + (to - from) / b
  pub are : slice r e new ≡ list_to ((to - from) / b) (λ m. top - weight_of limit (clump_from old from b m))

-- room for what the cells from .. to are cut into, away from them
pub record CutRoom (s : List ℕ) (from to a b keys rest : ℕ) : Type 0 where
  pub order : from ≤ to
  pub inside : to ≤ length s
  pub some : 2 ≤ b
  pub within : b ≤ a
  pub few : a ≤ most_part
  pub keys_room : keys + (to - from) / b ≤ rest
  pub rest_room : rest + (to - from) ≤ length s
  pub away : (to ≤ keys) ⊎ (rest + (to - from) ≤ from)

-- they are cut: keys stand up to cell k, and what is left over up to cell r, and no other cell changed
pub record CutTo (from to b keys rest k r : ℕ) (old new : List ℕ) : Type 0 where
  pub size : length new ≡ length old
  pub before : (c : ℕ) → c < keys → get_or new c 0 ≡ get_or old c 0
  pub between : (c : ℕ) → k ≤ c → c < rest → get_or new c 0 ≡ get_or old c 0
  pub behind : (c : ℕ) → r ≤ c → get_or new c 0 ≡ get_or old c 0
  pub keys_rise : keys ≤ k
  pub keys_low : k ≤ rest
  pub rest_rise : rest ≤ r
  pub whole : b * (k - keys) + (r - rest) ≡ to - from

-- numbers of one part
pub record PartAsked (s : List ℕ) (from to part a b keys rest : ℕ) : Type 0 where
  pub room : CutRoom s from to a b keys rest
  pub low : part < 2 ^ 23
  pub climbs : Climbs (part * a) ((part + 1) * a) (slice from to s)

pub record PartCut (from to a b keys rest k r : ℕ) (old new : List ℕ) : Type 0 where
  pub cut : CutTo from to b keys rest k r old new
  pub clumps : slice keys k new ≡ map (key_in a) (taken b (slice from to old))
  pub overflow : slice rest r new ≡ remainder b (slice from to old)

-- a row
pub record RowAsked (s : List ℕ) (from to a b keys rest : ℕ) : Type 0 where
  pub room : CutRoom s from to a b keys rest
  pub rising : Rising (2 ^ 24) (slice from to s)

pub record RowCut (from to a b keys rest k r : ℕ) (old new : List ℕ) : Type 0 where
  pub cut : CutTo from to b keys rest k r old new
  pub clumps : (n : ℕ) → Rising n (slice from to old) → slice keys k new ≡ map (key_in a) (clumps_of (level a b) n (slice from to old))
  pub overflow : (n : ℕ) → Rising n (slice from to old) → slice rest r new ≡ overflow_of (level a b) n (slice from to old)

-- rows to be cut, the first places of what they are cut into being set
pub record Placed (s : List ℕ) (at m : ℕ) (l : Pair) (keys rest : ℕ) : Type 0 where
  pub asked : CutAsked s at m l keys rest
  pub keys_first_lem : get_or s keys 0 ≡ keys + m + 1
  pub rest_first_lem : get_or s rest 0 ≡ rest + m + 1
