-- The pool's outputs have the exponents that they have in their parts, and so refusal 14 of the pool, against the amounts of both sheets in a row, is that of
-- the first part, then that of the second, counted on.
use mathlib.Core.Path.{◌≡◌, ap, ◌∙◌}
use mathlib.Core.List.{List, ◌++◌}
use Prim.Native.Nat.{ℕ, ◌+◌, ◌-◌, ◌*◌, ◌<◌}
use native.Mathlib.Nat.{add-mul, mul_comm}
use native.Mathlib.Omega.{arith}
use lib.ListN.{length, get_or, length-append, length-map, get_or-append}
use lib.Seq.{get_or-append-add}
use Rattle.chain.specs.Verdict.{fine, ◌then◌}
use Rattle.chain.specs.Chain.{steps_rule, outputs_rule, exponent_of}
use Rattle.chain.specs.declared.Step.{Step}
use Rattle.chain.proofs.Exponents.{exponent_keep}
use Rattle.chain.proofs.Limits.{outputs_low}
use Rattle.sheet.specs.Sheet.{amount}
use Rattle.sheet.proofs.Amounts.{amount_there}
use Rattle.verify.specs.Verify.{payslips_rule}
use Rattle.verify.proofs.Refused.{Differs, refused_14}
use Rattle.pool.specs.Pool.{Part, counted, pooled_steps, pooled_outputs, poolable_rule}
use Rattle.pool.proofs.Poolable.{poolable}
use Rattle.pool_laws.proofs.Renumbered.{joined_steps, joined_outputs}
use Rattle.pool_laws.proofs.Outputs.{output_second}
use Rattle.pool_laws.proofs.Findings.{finding, told_finding, both_parts, in_same}
use Rattle.pool_laws.proofs.Exponents.{exponent_second}

-- the amounts of both sheets in a row
module _ (p q : ℕ) (amounts amounts' : List ℕ) (fit : length amounts ≡ p * q) (c : ℕ) where
  amount_first : (i : ℕ) → i < q → c < p → amount p (amounts ++ amounts') i c ≡ amount p amounts i c
  amount_first i h g = get_or-append amounts amounts' 0 (i * p + c) (amount_there p q i c (length amounts) h g fit)

  amount_second : (i : ℕ) → amount p (amounts ++ amounts') (q + i) c ≡ amount p amounts' i c
  amount_second i =
      let e : (q + i) * p + c ≡ length amounts + (i * p + c) = omega (arith, add-mul q i p, mul_comm p q) in
      ap (λ (k : ℕ). get_or (amounts ++ amounts') k 0) e ∙ get_or-append-add amounts amounts' (i * p + c) 0

module _ (p : ℕ) (steps steps' : List Step) (outputs outputs' amounts amounts' : List ℕ) (ok : steps_rule p 1 steps' ≡ fine)
    (low : outputs_rule (p + length steps) 1 outputs ≡ fine) (low' : outputs_rule (p + length steps') 1 outputs' ≡ fine)
    (fit : length amounts ≡ p * length outputs) where
  abbrev all_steps : List Step
  all_steps = joined_steps p steps steps'

  abbrev all_outputs : List ℕ
  all_outputs = joined_outputs p (length steps) outputs outputs'

  made_first : (c i : ℕ) → i < length outputs → exponent_of p all_steps c (get_or all_outputs i 0) ≡ exponent_of p steps c (get_or outputs i 0)
  made_first c i h =
      ap (exponent_of p all_steps c) (get_or-append outputs _ 0 i h)
      ∙ exponent_keep p c steps _ (get_or outputs i 0) (omega (arith, outputs_low _ 1 outputs low i h))

  made_second : (c i : ℕ) → i < length outputs'
      → exponent_of p all_steps c (get_or all_outputs (length outputs + i) 0) ≡ exponent_of p steps' c (get_or outputs' i 0)
  made_second c i h =
      ap (exponent_of p all_steps c) (output_second p (length steps) outputs outputs' i)
      ∙ exponent_second p steps steps' ok c (get_or outputs' i 0) (outputs_low _ 1 outputs' low' i h)

  payslips_pooled : payslips_rule p (amounts ++ amounts') all_steps all_outputs
      ≡ (payslips_rule p amounts steps outputs then counted (length outputs) (payslips_rule p amounts' steps' outputs'))
  unfolding payslips_rule
  payslips_pooled =
      told_finding 14 (length all_outputs) _ _ (refused_14 p (amounts ++ amounts') all_steps all_outputs)
      (simp (length-append, length-map)
      (both_parts 14 (length outputs) (length outputs') (Differs p amounts steps outputs) (Differs p amounts' steps' outputs')
      (Differs p (amounts ++ amounts') all_steps all_outputs)
      (λ t h g. in_same p (λ e x. e ≡ x → ⊥) _ _ _ _ (λ c k. made_first c (t - 1) (omega arith))
      (λ c k. amount_first p (length outputs) amounts amounts' fit c (t - 1) (omega arith) k))
      (λ t h g.
      let e : length outputs + t - 1 ≡ length outputs + (t - 1) = omega arith in
      rw e
      (in_same p (λ e x. e ≡ x → ⊥) _ _ _ _ (λ c k. made_second c (t - 1) (omega arith))
      (λ c k. amount_second p (length outputs) amounts amounts' fit c (t - 1))))
      (finding 14 (length outputs) (Differs p amounts steps outputs) _ (refused_14 p amounts steps outputs))
      (finding 14 (length outputs') (Differs p amounts' steps' outputs') _ (refused_14 p amounts' steps' outputs'))))

pub pool_payslips : (a b : Part) (amounts amounts' : List ℕ) → poolable_rule a b ≡ fine → length amounts ≡ a.p * length a.outputs
    → payslips_rule a.p (amounts ++ amounts') (pooled_steps a b) (pooled_outputs a b)
    ≡ (payslips_rule a.p amounts a.steps a.outputs then counted (length a.outputs) (payslips_rule b.p amounts' b.steps b.outputs))
pool_payslips a b amounts amounts' e fit =
    let both = poolable a b e in
    rw both.columns
    (payslips_pooled b.p a.steps b.steps a.outputs b.outputs amounts amounts' both.steps_fine' (rw both.columns at both.outputs_fine)
    both.outputs_fine' (rw both.columns at fit))
