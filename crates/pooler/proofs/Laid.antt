-- The list that is laid, renumbered, and what its numbers are; two such lists, one after the other, are one over the front.
use mathlib.Core.Path.{◌≡◌, refl, sym, ap, ◌∙◌}
use mathlib.Core.List.{List, [], ◌∷◌, ◌++◌, map}
use Prim.Native.Nat.{ℕ, zero, suc, ◌+◌, ◌≤◌, ◌<◌, zero-le}
use native.Mathlib.Omega.{arith}
use lib.ListN.{length, get_or}
use Rattle.chain.specs.Written.{over, laid}
use Rattle.chain.proofs.Written.{over_laid, laid_laid}
use Rattle.pool.specs.Pool.{renumbered}
use Rattle.pool.proofs.Numbers.{renumbered_none, renumbered_start, renumbered_step_lem}

module _ (p n : ℕ) where
  pub number_laid : (i : ℕ) (numbers : List ℕ) → i < length numbers → renumbered p n (get_or numbers i 0) ≡ get_or (map (renumbered p n) numbers) i 0
  number_laid i [] h = absurd (omega arith)
  number_laid zero (x ∷ l) h = refl
  number_laid (suc i) (x ∷ l) h = number_laid i l (omega arith)

  -- `m` is the slice after the first list, `w` after the second
  pub both_laid : (first second old m w : List ℕ) → m ≡ laid 0 (map (renumbered p 0) first) old → w ≡ laid (length first) (map (renumbered p n) second) m
      → w ≡ over (first ++ map (renumbered p n) second) old
  both_laid first second old m w e f =
      f
      ∙ ap (laid (length first) (map (renumbered p n) second)) (e ∙ ap (λ (l : List ℕ). laid 0 l old) (renumbered_none p first))
      ∙ laid_laid 0 (length first) first (map (renumbered p n) second) old (omega arith) zero-le
      ∙ sym (over_laid (first ++ map (renumbered p n) second) old)

-- one number, by whether a step made the value
module _ (p n v : ℕ) where
  pub up : p < v → v + n ≡ renumbered p n v
  up h = sym (renumbered_step_lem p n v h)

  pub as_it_is : v ≤ p → v ≡ renumbered p n v
  as_it_is h = sym (renumbered_start p n v h)

pub ruleset renumbering = (up, as_it_is)
