-- The pool of two parts is a legal chain: each step and output of the second stays legal under its new numbers.
use mathlib.Core.Path.{◌≡◌, refl, sym, ◌∙◌}
use mathlib.Core.List.{List, [], ◌∷◌, map}
use Prim.Native.Nat.{ℕ, suc, ◌+◌}
use native.Mathlib.Omega.{arith}
use lib.ListN.{length, length-append, length-map}
use Rattle.chain.specs.Verdict.{fine}
use Rattle.chain.specs.Chain.{Legal, steps_rule}
use Rattle.chain.specs.declared.Step.{Step}
use Rattle.chain.proofs.Rules.{then_fine, pass}
use Rattle.chain.proofs.Steps.{step_legal, legal_step, steps-append}
use Rattle.chain.proofs.Limits.{outputs_low, low_outputs}
use Rattle.chain.proofs.Legal.{parts_legal, parts_chain}
use Rattle.pool.specs.Pool.{Part, renumbered_step, poolable_rule, pooled_steps, pooled_outputs}
use Rattle.pool.proofs.Poolable.{poolable}
use Rattle.pool_laws.proofs.Renumbered.{joined_steps, renumbered_legal}
use Rattle.pool_laws.proofs.Outputs.{outputs_pooled}

steps_renumbered : (p n s : ℕ) (steps : List Step) → steps_rule p s steps ≡ fine → steps_rule p (s + n) (map (renumbered_step p n) steps) ≡ fine
steps_renumbered p n s [] ok = refl
steps_renumbered p n s (x ∷ r) ok =
    let h = then_fine _ _ ok in
    let made : p + (s + n) ≡ p + s + n = omega arith in
    let next : suc (s + n) ≡ suc s + n = omega arith in
    let legal = legal_step (p + s + n) (s + n) _ (renumbered_legal p n (p + s) x (step_legal (p + s) s x h.0)) in
    sym (pass _ _ fine (rw made (sym legal)) (rw next (sym (steps_renumbered p n (suc s) r h.1))))

steps_pooled : (p : ℕ) (steps steps' : List Step) → steps_rule p 1 steps ≡ fine → steps_rule p 1 steps' ≡ fine
    → steps_rule p 1 (joined_steps p steps steps') ≡ fine
steps_pooled p steps steps' ok ok' =
    steps-append p 1 steps _ ∙ sym (pass _ _ fine (sym ok) (sym (steps_renumbered p (length steps) 1 steps' ok')))

pub pool_legal : (a b : Part) → poolable_rule a b ≡ fine → Legal a.p (pooled_steps a b) (pooled_outputs a b)
pool_legal a b e =
    let both = poolable a b e in
    let p : ℕ = b.p in
    let n : ℕ = length a.steps in
    let top : p + length (pooled_steps a b) ≡ p + length b.steps + n = simp (length-append, length-map) (omega arith) in
    let low = outputs_low _ 1 a.outputs both.outputs_fine in
    let low' = outputs_low _ 1 b.outputs both.outputs_fine' in
    rw both.columns
    (parts_legal _ _ _
    (record {
      sizes = simp (length-append, length-map)
          (record {
            p_some = both.sizes'.p_some;
            p_low = both.sizes'.p_low;
            q_some = omega (arith, both.sizes.q_some);
            q_low = both.payslips;
          });
      few = simp (length-append, length-map) both.few;
      chain = parts_chain _ _ _ (steps_pooled p a.steps b.steps (rw both.columns at both.steps_fine) both.steps_fine')
          (rw top (low_outputs _ 1 (pooled_outputs a b) (outputs_pooled p n a.outputs b.outputs _ _ (omega (arith, both.columns)) low low')));
    }))
