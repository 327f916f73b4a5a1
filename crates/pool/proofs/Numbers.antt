-- A value number of the second part in the pool, decided by whether a step made the value.
use mathlib.Core.Path.{◌≡◌, refl, ap, ap₂, ◌∙◌}
use mathlib.Core.List.{List, [], ◌∷◌, map}
use Prim.Native.Nat.{ℕ, ◌+◌, ◌≤◌, ◌<◌}
use native.Mathlib.Decide.{dec_lt}
use native.Mathlib.Omega.{arith}
use Rattle.chain.specs.Chain.{flat}
use Rattle.chain.specs.declared.Step.{Step}
use Rattle.chain.proofs.Rules.{lt_yes, lt_no}
use Rattle.pool.specs.Pool.{renumbered, renumbered_step}

module _ (p n : ℕ) where
  pub renumbered_start : (v : ℕ) → v ≤ p → renumbered p n v ≡ v
  unfolding renumbered
  renumbered_start v h = rw (lt_no p v h)

  pub renumbered_step_lem : (v : ℕ) → p < v → renumbered p n v ≡ v + n
  unfolding renumbered
  renumbered_step_lem v h = rw (lt_yes p v h)

-- where nothing is added, all numbers stay
pub renumbered_none : (p : ℕ) (l : List ℕ) → map (renumbered p 0) l ≡ l
renumbered_none p [] = refl
renumbered_none p (v ∷ l) = ap₂ (λ (x : ℕ) (r : List ℕ). x ∷ r) (by_size (dec_lt p v)) (renumbered_none p l)
  where
    by_size : Dec (p < v) → renumbered p 0 v ≡ v
    by_size (yes made) = renumbered_step_lem p 0 v made ∙ omega arith
    by_size (no start) = renumbered_start p 0 v (omega arith)

-- renumbered steps in turn are the numbers renumbered
pub flat_renumbered : (p n : ℕ) (steps : List Step) → flat (map (renumbered_step p n) steps) ≡ map (renumbered p n) (flat steps)
flat_renumbered p n [] = refl
flat_renumbered p n (x ∷ r) = ap (λ (l : List ℕ). renumbered p n x.first ∷ renumbered p n x.second ∷ l) (flat_renumbered p n r)
