-- A value of the second part is in the pool what it is in the part, whatever the operation: its operands are renumbered as it is.
use mathlib.Core.Path.{◌≡◌, ap, ap₂, subst, sym, ◌∙◌}
use mathlib.Core.List.{List, [], ◌∷◌, ◌++◌, map}
use Prim.Native.Nat.{ℕ, suc, ◌+◌, ◌<◌}
use native.Mathlib.Decide.{dec_lt}
use native.Mathlib.Omega.{arith}
use lib.ListN.{length, get_or, length-append, get_or-append}
use lib.Seq.{get_or_at}
use Rattle.chain.specs.Verdict.{fine}
use Rattle.chain.specs.Chain.{steps_rule, values}
use Rattle.chain.specs.declared.Step.{Step}
use Rattle.chain.proofs.Rules.{then_fine}
use Rattle.chain.proofs.Steps.{LegalStep, step_legal}
use Rattle.chain.proofs.Values.{values-append, length-values, values_before}
use Rattle.pool.specs.Pool.{renumbered, renumbered_step}
use Rattle.pool.proofs.Numbers.{renumbered_start, renumbered_step_lem}
use Rattle.pool_laws.proofs.Renumbered.{joined_steps, renumbered_between}

module _ (f : ℕ → ℕ → ℕ) (p n : ℕ) where
  -- the values `pool` have those of `own` at their numbers in the pool
  abbrev Agree : List ℕ → List ℕ → Type 0
  Agree pool own = (v : ℕ) → v < length own → get_or pool (renumbered p n v) 0 ≡ get_or own v 0

  -- lists that agree do so after further steps
  agree_on : (steps : List Step) (s : ℕ) (pool own : List ℕ) → length pool ≡ length own + n → length own ≡ p + suc s
      → steps_rule p (suc s) steps ≡ fine → Agree pool own → Agree (values f pool (map (renumbered_step p n) steps)) (values f own steps)
  agree_on [] s pool own long eq ok agree = agree
  agree_on (x ∷ r) s pool own long eq ok agree =
      agree_on r (suc s) (pool ++ new' ∷ []) (own ++ new ∷ []) (simp length-append (omega arith)) (rw length-append (omega arith))
      (then_fine _ _ ok).1 next
    where
      legal : LegalStep (length own) x
      legal = subst (λ (k : ℕ). LegalStep k x) (sym eq) (step_legal (p + suc s) (suc s) x (then_fine _ _ ok).0)

      new : ℕ
      new = f (get_or own x.first 0) (get_or own x.second 0)

      new' : ℕ
      new' = f (get_or pool (renumbered p n x.first) 0) (get_or pool (renumbered p n x.second) 0)

      next : Agree (pool ++ new' ∷ []) (own ++ new ∷ [])
      next v h = by_place (dec_lt v (length own))
        where
          by_place : Dec (v < length own) → get_or (pool ++ new' ∷ []) (renumbered p n v) 0 ≡ get_or (own ++ new ∷ []) v 0
          by_place (yes lt) =
              get_or-append pool _ 0 (renumbered p n v) (omega (arith, (renumbered_between p n v).1))
              ∙ agree v lt ∙ sym (get_or-append own _ 0 v lt)
          by_place (no ge) =
              let last : length own ≡ v = omega (arith, rw length-append at h) in
              get_or_at pool new' [] 0 (renumbered p n v) (omega (arith, renumbered_step_lem p n v (omega arith)))
              ∙ ap₂ f (agree x.first legal.first_low) (agree x.second legal.second_low)
              ∙ sym (get_or_at own new [] 0 v last)

-- value v of the second part, from any values `start` of value 0 and the bases
pub pooled_value : (f : ℕ → ℕ → ℕ) (p : ℕ) (start : List ℕ) (steps steps' : List Step) → length start ≡ p + 1 → steps_rule p 1 steps' ≡ fine
    → (v : ℕ) → v < length start + length steps'
    → get_or (values f start (joined_steps p steps steps')) (renumbered p (length steps) v) 0 ≡ get_or (values f start steps') v 0
pooled_value f p start steps steps' long ok v h =
    ap (λ (l : List ℕ). get_or l (renumbered p (length steps) v) 0) (values-append f start steps (map (renumbered_step p (length steps)) steps'))
    ∙ agree_on f p (length steps) steps' 0 (values f start steps) start (length-values f start steps) long ok
    (λ u k. ap (λ (w : ℕ). get_or (values f start steps) w 0) (renumbered_start p (length steps) u (omega arith)) ∙ values_before f start steps u k)
    v (omega (arith, length-values f start steps'))
