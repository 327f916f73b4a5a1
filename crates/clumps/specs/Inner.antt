-- Inner vocabulary: how many steps the levels may make, and how many cells they may need; nobody has to believe it to believe an entry point's promise.
use Rattle.std.specs.Prelude.{List, [], ◌∷◌, ℕ, zero, suc, ◌+◌, ◌*◌, ◌/◌, min, max}
use Rattle.clumps.specs.Clumps.{Level}

-- the most steps for E incidences
abbrev mutual
  pub most_out : List Level → ℕ → ℕ
  most_out [] E = E
  most_out (l ∷ levels) E = E + most_in levels (E / 2)

  pub most_in : List Level → ℕ → ℕ
  most_in [] E = E
  most_in (l ∷ levels) E = E + most_out levels E

-- how many keys clumps of n indices may have at the most, whatever the pair: 2^a of them for each part of a, and a is at most 8
abbrev pub most_keys : ℕ → ℕ
most_keys n = 32 * (n + 7)

-- how many clumps rows of so many numbers may have at the most, of indices below n
abbrev pub clumps_within : ℕ → ℕ → ℕ
clumps_within n members = min (members / 2) (most_keys n)

-- how many cells behind cell `to` the clumping of m outputs over n inputs may need, there being so many members, with so many levels left, and that of
-- inputs: whatever their pairs are
abbrev mutual
  pub output_room : ℕ → ℕ → ℕ → ℕ → ℕ
  output_room zero n m members = m
  output_room (suc left) n m members =
      let half = members / 2 in
      let k = clumps_within m members in
      let rest = m + n + 1 + half in
      let made = rest + n + 1 + members + most_keys m + half + k + 1 + k + 1 + half in
      max (rest + 2 * (n + 1 + members)) (made + max (input_room left n k half) (k + 2 * (m + 1) + members))

  pub input_room : ℕ → ℕ → ℕ → ℕ → ℕ
  input_room zero n m members = m
  input_room (suc left) n m members =
      let half = members / 2 in
      let k = clumps_within n members in
      let rest = m + m + 1 + half in
      let end = rest + m + 1 + members + most_keys n + half + k + 1 + k + n + m + 1 + members in
      end + output_room left (k + n) m members
