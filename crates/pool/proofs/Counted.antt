-- A verdict on the second part told on: its number stays, its place goes on from the first part's.
use mathlib.Core.Path.{◌≡◌, refl, ap, ◌∙◌}
use Prim.Native.Nat.{ℕ, ◌+◌}
use Rattle.chain.specs.Verdict.{Verdict, fine, refused}
use Rattle.chain.proofs.Rules.{not_fine}
use Rattle.pool.specs.Pool.{counted}

module _ (k : ℕ) (v : Verdict) where
  pub counted_refused : (n s : ℕ) → refused n s ≡ v → refused n (k + s) ≡ counted k v
  unfolding counted
  counted_refused n s e = rw (← e)

  pub counted_passed : fine ≡ v → fine ≡ counted k v
  unfolding counted
  counted_passed e = rw (← e)

pub counted_fine : (k : ℕ) (v : Verdict) → counted k v ≡ fine → v ≡ fine
unfolding counted
counted_fine k fine e = refl
counted_fine k (refused n s) e = absurd (not_fine e)

-- `v` is what was told of the second part, `u` what is told on
pub counted_on : (k : ℕ) (v w u : Verdict) → v ≡ w → u ≡ counted k v → u ≡ counted k w
counted_on k v w u e f = f ∙ ap (counted k) e

-- told of the second part, and of it counted on
module _ (k : ℕ) (w : Verdict) where
  pub passed_on : fine ≡ w → fine ≡ counted k w
  passed_on e = counted_passed k w e

  pub refused_on : (n s : ℕ) (u : Verdict) → refused n s ≡ w → u ≡ counted k (refused n s) → u ≡ counted k w
  refused_on n s u e f = counted_on k _ w u e f

pub ruleset counting_on = (passed_on, refused_on)
