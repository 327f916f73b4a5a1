-- Clumps (Req 06): indices cut into parts, and in each part taken so many at a time.
use Rattle.std.specs.Prelude.{List, [], ◌∷◌, ℕ, ◌*◌, ◌/◌, length, get_or, drop}
use Rattle.chain.specs.Tests.{◌=?◌}
use Rattle.digits.specs.Range.{list_to}
use Rattle.groups.specs.Groups.{group, group_count}
use Rattle.clumps.specs.Lists.{joined, only, entered}

-- Req 06: the pair a, b of a level
pub record Level : Type 0 where
  pub a : ℕ
  pub b : ℕ

-- Req 06: the largest a
abbrev pub most_part : ℕ
most_part = 8

abbrev pub level : ℕ → ℕ → Level
level a b = record { a = a; b = b }

-- Req 06: pairs one after the other, one for each level from 2 on
abbrev pub levels_of : List ℕ → List Level
levels_of [] = []
levels_of (a ∷ []) = []
levels_of (a ∷ b ∷ r) = level a b ∷ levels_of r

-- Req 06: indices in parts of a, the last perhaps shorter; those of s that lie in part k, counted from 0
abbrev pub in_part : ℕ → ℕ → List ℕ → List ℕ
in_part a k s = only (λ x. x / a =? k) s

-- Req 06: those of one part, b at a time
abbrev pub taken : ℕ → List ℕ → List (List ℕ)
taken b here = list_to (length here / b) (λ m. group b m here)

-- Req 06: and the rest
abbrev pub remainder : ℕ → List ℕ → List ℕ
remainder b here = drop (length here / b * b) here

-- Req 06: the clumps and the overflow of s, part after part, there being n indices
unfoldable pub clumps_of : Level → ℕ → List ℕ → List (List ℕ)
clumps_of l n s = joined (group_count l.a n) (λ k. taken l.b (in_part l.a k s))

unfoldable pub overflow_of : Level → ℕ → List ℕ → List ℕ
overflow_of l n s = joined (group_count l.a n) (λ k. remainder l.b (in_part l.a k s))

-- Req 06: the clumps of some lists, equal ones once, in order of first member, then second, and so on
abbrev pub clumps_in : List (List (List ℕ)) → List (List ℕ)
clumps_in cut = entered [] (joined (length cut) (λ i. get_or cut i []))
