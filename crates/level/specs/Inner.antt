-- Inner vocabulary: the cut of one level; nobody has to believe it to believe an entry point's promise.
use Rattle.std.specs.Prelude.{◌≡◌, List, [], ℕ, ◌+◌, ◌*◌, ◌/◌, ◌^◌, ◌≤◌, ◌<◌, min, length, get_or}
use Rattle.digits.specs.Range.{list_to}
use Rattle.groups.specs.Groups.{group_count}
use Rattle.clumps.specs.Lists.{which, holds}
use Rattle.clumps.specs.Clumps.{Level, level, clumps_in, clumps_of, overflow_of}
use Rattle.rows.specs.Inner.{members_at, row_at, rows_at, Formed, Rising}
use Rattle.cuts.specs.Inner.{CutAsked}
use Rattle.cuts.specs.declared.Pair.{Pair}
use Rattle.level.specs.declared.Clumped.{Clumped}

abbrev pub level_of : Pair → Level
level_of l = level l.a l.b

-- how many keys clumps of n indices may have
abbrev pub keys_of : Pair → ℕ → ℕ
keys_of l n = group_count l.a n * 2 ^ l.a

-- how many clumps rows of so many numbers may have: none is of fewer than b, and each has a key
abbrev pub most_clumps : Pair → ℕ → ℕ → ℕ
most_clumps l n members = min (members / l.b) (keys_of l n)

-- where the rows of the clumps of m rows of so many numbers end at the latest, what overflows being in rows at a cell
abbrev pub level_end : Pair → ℕ → ℕ → ℕ → ℕ → ℕ
level_end l n m members rest = rest + m + 1 + members + keys_of l n + members / l.b + most_clumps l n members + 1

-- the clumps of each of m rows of indices below n, and all of them in order
abbrev pub cut_of : Pair → ℕ → List ℕ → ℕ → ℕ → List (List (List ℕ))
cut_of l n s at m = list_to m (λ j. clumps_of (level_of l) n (row_at s at j))

-- the clumps that list j of some has, by their places
abbrev pub places_of : List (List (List ℕ)) → ℕ → List ℕ
places_of cut j = which (λ x. holds (get_or (clumps_in cut) x []) (get_or cut j [])) (length (clumps_in cut))

-- m rows of indices below n, and room for what they are cut into, for a table of keys, and for the clumps
pub record LevelAsked (s : List ℕ) (at m n : ℕ) (l : Pair) (keys rest : ℕ) : Type 0 where
  pub cut : CutAsked s at m l keys rest
  pub rising : (j : ℕ) → j < m → Rising n (row_at s at j)
  pub few : n < 2 ^ 24
  pub room : level_end l n m (members_at s at m) rest ≤ length s

-- the level is cut: of each row the places of its clumps stand in a row at `keys`, its overflow in a row at `rest`, and behind them rows of the clumps
pub record LevelCut (at m n : ℕ) (l : Pair) (keys rest : ℕ) (r : Clumped) (old new : List ℕ) : Type 0 where
  pub size : length new ≡ length old
  pub kept : (c : ℕ) → c < keys → get_or new c 0 ≡ get_or old c 0
  pub places_formed : Formed new keys m (get_or new (keys + m) 0)
  pub places : (j : ℕ) → j < m → row_at new keys j ≡ places_of (cut_of l n old at m) j
  pub rest_formed : Formed new rest m (get_or new (rest + m) 0)
  pub rest_before : get_or new (rest + m) 0 ≤ r.clumps
  pub overflow : (j : ℕ) → j < m → row_at new rest j ≡ overflow_of (level_of l) n (row_at old at j)
  pub whole : l.b * members_at new keys m + members_at new rest m ≡ members_at old at m
  pub count : r.k ≡ length (clumps_in (cut_of l n old at m))
  pub clumps_formed : Formed new r.clumps r.k r.end
  pub clumps_are : rows_at new r.clumps r.k ≡ clumps_in (cut_of l n old at m)
  pub members : members_at new r.clumps r.k + members_at new rest m ≤ members_at old at m
  pub few : r.k ≤ most_clumps l n (members_at old at m)
  pub low : r.end ≤ level_end l n m (members_at old at m) rest
