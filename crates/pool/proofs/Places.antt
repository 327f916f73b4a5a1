-- The place of a refused step or output is one of the list's own, so that it can be counted on.
use mathlib.Core.Path.{◌≡◌}
use mathlib.Core.Bool.{Bool, true, false}
use mathlib.Core.List.{List, [], ◌∷◌}
use Prim.Native.Nat.{ℕ, suc, ◌+◌, ◌/◌, ◌≤◌}
use native.Mathlib.Omega.{arith}
use lib.ListN.{length}
use Rattle.chain.specs.Verdict.{Verdict, fine, refused, ◌then◌, refuse_if}
use Rattle.chain.specs.Chain.{most_payslips, most_steps, pairs, step_rule, steps_rule, outputs_rule}
use Rattle.chain.specs.declared.Step.{Step}
use Rattle.chain.proofs.Pairs.{length_pairs}
use Rattle.pool.specs.Inner.{place_in}

place_then : (k : ℕ) (a b : Verdict) → place_in a ≤ k → place_in b ≤ k → place_in (a then b) ≤ k
unfolding ◌then◌
place_then k fine b g h = h
place_then k (refused n s) b g h = g

place_if : (k : ℕ) (t : Bool) (n s : ℕ) → s ≤ k → place_in (refuse_if t n s) ≤ k
unfolding refuse_if
place_if k true n s h = h
place_if k false n s h = omega arith

place_step : (k v s : ℕ) (x : Step) → s ≤ k → place_in (step_rule v s x) ≤ k
unfolding step_rule
place_step k v s x h = place_then k _ _ (place_if k _ 9 s h) (place_then k _ _ (place_if k _ 10 s h) (place_if k _ 11 s h))

place_steps : (k p s : ℕ) (l : List Step) → s + length l ≤ k + 1 → place_in (steps_rule p s l) ≤ k
place_steps k p s [] h = omega arith
place_steps k p s (x ∷ l) h = place_then k _ _ (place_step k (p + s) s x (omega arith)) (place_steps k p (suc s) l (omega arith))

place_outputs : (k top i : ℕ) (l : List ℕ) → i + length l ≤ k + 1 → place_in (outputs_rule top i l) ≤ k
place_outputs k top i [] h = omega arith
place_outputs k top i (o ∷ l) h = place_then k _ _ (place_if k _ 12 i (omega arith)) (place_outputs k top (suc i) l (omega arith))

-- `v` is the verdict that was told
pub steps_place_low : (p : ℕ) (l : List ℕ) (v : Verdict) → v ≡ steps_rule p 1 (pairs l) → length l / 2 ≤ most_steps → place_in v ≤ most_steps
steps_place_low p l v e h = rw e (place_steps most_steps p 1 (pairs l) (omega (arith, length_pairs l)))

pub outputs_place_low : (top : ℕ) (l : List ℕ) (v : Verdict) → v ≡ outputs_rule top 1 l → length l ≤ most_payslips → place_in v ≤ most_steps
outputs_place_low top l v e h = rw e (place_outputs most_steps top 1 l (omega arith))
