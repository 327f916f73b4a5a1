-- The pool passes the check against the amounts of both sheets in a row exactly if each part passes it against its own.
use mathlib.Core.Path.{◌≡◌, sym, ◌∙◌}
use mathlib.Core.Logic.{◌↔◌}
use mathlib.Core.List.{List, ◌++◌}
use Prim.Native.Nat.{ℕ, ◌*◌}
use native.Mathlib.Nat.{le_refl, mul-add}
use native.Mathlib.Omega.{arith}
use lib.ListN.{length, length-append, length-map}
use Rattle.chain.specs.Verdict.{fine}
use Rattle.chain.specs.Chain.{Legal}
use Rattle.chain.proofs.Rules.{then_fine, pass}
use Rattle.verify.specs.Verify.{exponents_rule, payslips_rule, verify_rule}
use Rattle.verify.proofs.Fitting.{fits}
use Rattle.pool.specs.Pool.{Part, pooled_outputs, poolable_rule}
use Rattle.pool.proofs.Poolable.{poolable, both_fine}
use Rattle.pool_laws.specs.Pooled.{pooled, Passes}
use Rattle.pool_laws.proofs.Legal.{pool_legal}
use Rattle.pool_laws.proofs.Exponents.{pool_exponents}
use Rattle.pool_laws.proofs.Payslips.{pool_payslips}

-- a legal chain with as many amounts as it is to have passes exactly if 13 and 14 do not apply
passes_rules : (x : Part) (amounts : List ℕ) → Legal x.p x.steps x.outputs → length amounts ≡ x.p * length x.outputs
    → Passes x amounts ↔ ((exponents_rule x.p x.steps ≡ fine) × (payslips_rule x.p amounts x.steps x.outputs ≡ fine))
unfolding verify_rule
passes_rules x amounts legal fit = (
  λ passes. then_fine _ _ (then_fine _ _ (passes _ (le_refl _))).1,
  λ rules scratch room. sym
      (pass _ _ fine (sym (fits x.p x.steps x.outputs amounts scratch (record { legal = legal; amounts_fit = fit; room = room })))
      (pass _ _ fine (sym rules.0) (sym rules.1))),
)

-- both sheets in a row have as many amounts as the pool is to have
amounts_pooled : (a b : Part) (amounts amounts' : List ℕ) → a.p ≡ b.p → length amounts ≡ a.p * length a.outputs
    → length amounts' ≡ b.p * length b.outputs → length (amounts ++ amounts') ≡ a.p * length (pooled_outputs a b)
amounts_pooled a b amounts amounts' columns fit fit' = rw columns (simp (length-append, length-map, mul-add) (omega (arith, rw columns at fit)))

pub pool_passes : (a b : Part) (amounts amounts' : List ℕ) → poolable_rule a b ≡ fine → length amounts ≡ a.p * length a.outputs
    → length amounts' ≡ b.p * length b.outputs → Passes (pooled a b) (amounts ++ amounts') ↔ (Passes a amounts × Passes b amounts')
pool_passes a b amounts amounts' e fit fit' =
    let both = poolable a b e in
    let exponents = pool_exponents a b e in
    let payslips = pool_payslips a b amounts amounts' e fit in
    let whole = passes_rules (pooled a b) (amounts ++ amounts') (pool_legal a b e) (amounts_pooled a b amounts amounts' both.columns fit fit') in
    let first = passes_rules a amounts both.legal fit in
    let second = passes_rules b amounts' both.legal' fit' in (
      λ passes.
          let low = (both_fine _ _ _).0 (sym exponents ∙ (whole.0 passes).0) in
          let made = (both_fine _ _ _).0 (sym payslips ∙ (whole.0 passes).1) in
          (first.1 (low.0, made.0), second.1 (low.1, made.1)),
      λ passes.
          let rules = first.0 passes.0 in
          let rules' = second.0 passes.1 in
          whole.1 (exponents ∙ (both_fine _ _ _).1 (rules.0, rules'.0), payslips ∙ (both_fine _ _ _).1 (rules.1, rules'.1)),
    )
