-- What it means that two parts pool: each is a legal chain, both have the same columns, and both together keep to the limits.
use mathlib.Core.Path.{◌≡◌, sym}
use mathlib.Core.Logic.{◌↔◌}
use Prim.Native.Nat.{ℕ, ◌+◌, ◌≤◌}
use lib.ListN.{length}
use Rattle.chain.specs.Verdict.{Verdict, fine, ◌then◌}
use Rattle.chain.specs.Chain.{most_payslips, most_steps, Legal, steps_rule, outputs_rule}
use Rattle.chain.proofs.Rules.{then_fine, refuse_if_fine, not_ne, pass}
use Rattle.chain.proofs.Sizes.{Sizes}
use Rattle.chain.proofs.Legal.{parts_legal, parts_chain}
use Rattle.pool.specs.Pool.{Part, counted, both_steps_rule, both_outputs_rule, poolable_rule}
use Rattle.pool.proofs.Counted.{counted_passed, counted_fine}
use Rattle.pool.proofs.Parts.{both_sizes_fit, both_lengths_fit}

pub record Poolable (a b : Part) : Type 0 where
  pub columns : a.p ≡ b.p
  pub sizes : Sizes a.p (length a.outputs)
  pub sizes' : Sizes b.p (length b.outputs)
  pub payslips : length a.outputs + length b.outputs ≤ most_payslips
  pub few : length a.steps + length b.steps ≤ most_steps
  pub steps_fine : steps_rule a.p 1 a.steps ≡ fine
  pub steps_fine' : steps_rule b.p 1 b.steps ≡ fine
  pub outputs_fine : outputs_rule (a.p + length a.steps) 1 a.outputs ≡ fine
  pub outputs_fine' : outputs_rule (b.p + length b.steps) 1 b.outputs ≡ fine
  pub legal : Legal a.p a.steps a.outputs
  pub legal' : Legal b.p b.steps b.outputs

-- nothing is found in two parts exactly if nothing is found in either
pub both_fine : (k : ℕ) (v v' : Verdict) → (v then counted k v') ≡ fine ↔ ((v ≡ fine) × (v' ≡ fine))
both_fine k v v' = (
  λ e. let h = then_fine v (counted k v') e in (h.0, counted_fine k v' h.1),
  λ h. sym (pass _ _ fine (sym h.0) (counted_passed k v' (sym h.1))),
)

legal_part : (x : Part) → Sizes x.p (length x.outputs) → length x.steps ≤ most_steps → steps_rule x.p 1 x.steps ≡ fine
    → outputs_rule (x.p + length x.steps) 1 x.outputs ≡ fine → Legal x.p x.steps x.outputs
legal_part x sizes few steps outputs = parts_legal _ _ _ (record { sizes = sizes; few = few; chain = parts_chain _ _ _ steps outputs })

pub poolable : (a b : Part) → poolable_rule a b ≡ fine → Poolable a b
unfolding poolable_rule both_steps_rule both_outputs_rule
poolable a b e =
    let h = then_fine _ _ e in
    let i = then_fine _ _ h.1 in
    let k = then_fine _ _ i.1 in
    let l = then_fine _ _ k.1 in
    let sizes = both_sizes_fit _ _ _ _ h.0 in
    let lengths = both_lengths_fit _ _ k.0 in
    let steps = (both_fine _ _ _).0 l.0 in
    let outputs = (both_fine _ _ _).0 l.1 in
    record {
      columns = not_ne _ _ (refuse_if_fine _ 17 0 i.0);
      sizes = sizes.first;
      sizes' = sizes.second;
      payslips = sizes.together;
      few = lengths.together;
      steps_fine = steps.0;
      steps_fine' = steps.1;
      outputs_fine = outputs.0;
      outputs_fine' = outputs.1;
      legal = legal_part a sizes.first lengths.first steps.0 outputs.0;
      legal' = legal_part b sizes.second lengths.second steps.1 outputs.1;
    }
