-- Inner vocabulary: a level of output clumping opened; nobody has to believe it to believe an entry point's promise.
use Rattle.std.specs.Prelude.{◌≡◌, List, ℕ, ◌+◌, ◌*◌, ◌/◌, ◌^◌, ◌≤◌, ◌<◌, length, get_or}
use Rattle.clumps.specs.Clumps.{most_part, clumps_in}
use Rattle.clumps.specs.Levels.{output_cut, output_rest, next_outputs}
use Rattle.rows.specs.Inner.{members_at, row_at, rows_at, Formed, Rising}
use Rattle.row_products.specs.declared.Problem.{Problem}
use Rattle.cuts.specs.declared.Pair.{Pair}
use Rattle.level.specs.Inner.{level_of, level_end, most_clumps}
use Rattle.opening.specs.declared.Opened.{Opened}

-- a pair in its range
pub record PairFits (l : Pair) : Type 0 where
  pub some : 2 ≤ l.b
  pub within : l.b ≤ l.a
  pub few : l.a ≤ most_part

-- where the rows of a level of outputs begin: the places of the clumps of n inputs behind m values, then what overflows
abbrev pub rest_from : Pair → Problem → ℕ → ℕ → ℕ
rest_from l t members to = to + t.m + t.n + 1 + members / l.b

-- m rows of rising places of n inputs, all before cell `to`, and room behind it for what the level makes of them
pub record OpenAsked (s : List ℕ) (t : Problem) (l : Pair) (to : ℕ) : Type 0 where
  pub fits : PairFits l
  pub formed : Formed s t.outs t.m (get_or s (t.outs + t.m) 0)
  pub rising : (j : ℕ) → j < t.m → Rising t.n (row_at s t.outs j)
  pub before : get_or s (t.outs + t.m) 0 ≤ to
  pub few_inputs : t.n < 2 ^ 24
  pub few_outputs : t.m < 2 ^ 24
  pub cut_room : rest_from l t (members_at s t.outs t.m) to + 2 * (t.n + 1 + members_at s t.outs t.m) ≤ length s
  pub room :
      level_end l t.m t.n (members_at s t.outs t.m) (rest_from l t (members_at s t.outs t.m) to)
      + most_clumps l t.m (members_at s t.outs t.m) + 1 + members_at s t.outs t.m / l.b ≤ length s
  pub small : length s < 2 ^ 32

-- the level is opened: rows of what overflows of each input, of the clumps, and of the next level's outputs
pub record OutputsOpened (t : Problem) (l : Pair) (to : ℕ) (r : Opened) (old new : List ℕ) : Type 0 where
  pub size : length new ≡ length old
  pub kept : (c : ℕ) → c < to + t.m → get_or new c 0 ≡ get_or old c 0
  pub rest_at : to + t.m ≤ r.rest
  pub rest_formed : Formed new r.rest t.n (get_or new (r.rest + t.n) 0)
  pub rest_before : get_or new (r.rest + t.n) 0 ≤ r.clumps
  pub rest_are : rows_at new r.rest t.n ≡ output_rest (level_of l) t.n (rows_at old t.outs t.m)
  pub count : r.k ≡ length (clumps_in (output_cut (level_of l) t.n (rows_at old t.outs t.m)))
  pub clumps_formed : Formed new r.clumps r.k r.next
  pub clumps_are : rows_at new r.clumps r.k ≡ clumps_in (output_cut (level_of l) t.n (rows_at old t.outs t.m))
  pub next_formed : Formed new r.next r.k r.made
  pub next_are : rows_at new r.next r.k ≡ next_outputs (level_of l) t.n (rows_at old t.outs t.m)
  pub few : r.k ≤ most_clumps l t.m (members_at old t.outs t.m)
  pub low :
      r.made
      ≤ level_end l t.m t.n (members_at old t.outs t.m) (rest_from l t (members_at old t.outs t.m) to)
      + r.k + 1 + members_at old t.outs t.m / l.b
