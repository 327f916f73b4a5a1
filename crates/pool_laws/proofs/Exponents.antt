-- The exponents of the pool are those of its parts, and so refusal 13 of the pool is that of the first part, then that of the second, counted on.
use mathlib.Core.Path.{◌≡◌, refl, ap, sym, ◌∙◌}
use mathlib.Core.List.{List}
use Prim.Native.Nat.{ℕ, ◌+◌, ◌≤◌, ◌<◌}
use native.Mathlib.Omega.{arith}
use lib.ListN.{length, length-append, length-map}
use Rattle.chain.specs.Verdict.{fine, ◌then◌}
use Rattle.chain.specs.Chain.{steps_rule, exponents, exponent_of}
use Rattle.chain.specs.declared.Step.{Step}
use Rattle.chain.proofs.Exponents.{start_length, exponent_keep}
use Rattle.verify.specs.Verify.{exponents_rule}
use Rattle.verify.proofs.Refused.{TooLarge, refused_13}
use Rattle.pool.specs.Pool.{Part, renumbered, counted, pooled_steps, poolable_rule}
use Rattle.pool.proofs.Poolable.{poolable}
use Rattle.pool.proofs.Numbers.{renumbered_step_lem}
use Rattle.pool_laws.proofs.Renumbered.{joined_steps}
use Rattle.pool_laws.proofs.Values.{pooled_value}
use Rattle.pool_laws.proofs.Findings.{finding, told_finding, both_parts, in_same}

module _ (p : ℕ) (steps steps' : List Step) (ok : steps_rule p 1 steps' ≡ fine) where
  abbrev all_steps : List Step
  all_steps = joined_steps p steps steps'

  pub exponent_second : (c v : ℕ) → v ≤ p + length steps' → exponent_of p all_steps c (renumbered p (length steps) v) ≡ exponent_of p steps' c v
  unfolding exponents
  exponent_second c v h = pooled_value ◌+◌ p _ steps steps' (start_length p c) ok v (omega (arith, start_length p c))

  exponents_pooled : exponents_rule p all_steps ≡ (exponents_rule p steps then counted (length steps) (exponents_rule p steps'))
  unfolding exponents_rule
  exponents_pooled =
      told_finding 13 (length all_steps) (TooLarge p all_steps) _ (refused_13 p all_steps)
      (simp (length-append, length-map)
      (both_parts 13 (length steps) (length steps') (TooLarge p steps) (TooLarge p steps') (TooLarge p all_steps)
      (λ t h g. in_same p (λ e limit. limit < e) _ _ _ _ (λ c k. exponent_keep p c steps _ (p + t) (omega arith)) (λ c k. refl))
      (λ t h g. in_same p (λ e limit. limit < e) _ _ _ _ (λ c k. second c t h g) (λ c k. refl))
      (finding 13 (length steps) (TooLarge p steps) _ (refused_13 p steps))
      (finding 13 (length steps') (TooLarge p steps') _ (refused_13 p steps'))))
    where
      second : (c t : ℕ) → 1 ≤ t → t ≤ length steps' → exponent_of p all_steps c (p + (length steps + t)) ≡ exponent_of p steps' c (p + t)
      second c t h g =
          let e : renumbered p (length steps) (p + t) ≡ p + (length steps + t) = renumbered_step_lem p (length steps) (p + t) (omega arith) ∙ omega arith in
          ap (exponent_of p all_steps c) (sym e) ∙ exponent_second c (p + t) (omega arith)

pub pool_exponents : (a b : Part) → poolable_rule a b ≡ fine
    → exponents_rule a.p (pooled_steps a b) ≡ (exponents_rule a.p a.steps then counted (length a.steps) (exponents_rule b.p b.steps))
pool_exponents a b e =
    let both = poolable a b e in
    rw both.columns (exponents_pooled b.p a.steps b.steps both.steps_fine')
