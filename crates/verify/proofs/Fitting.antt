-- Nothing is found before the scratch is used exactly if the chain is legal, the amounts are p times q and the scratch is long enough.
use mathlib.Core.Path.{◌≡◌, sym}
use mathlib.Core.List.{List}
use Prim.Native.Nat.{ℕ, ◌*◌, ◌≤◌}
use lib.ListN.{length}
use Rattle.chain.specs.Verdict.{fine}
use Rattle.chain.specs.Chain.{Legal, legal_rule}
use Rattle.chain.specs.declared.Step.{Step}
use Rattle.chain.proofs.Rules.{then_fine, refuse_if_fine, not_lt, refuse_no, lt_no, pass}
use Rattle.sheet.proofs.Amounts.{amounts_fit, fit_amounts}
use Rattle.verify.specs.Verify.{scratch_size, fitting_rule}

pub record Fitting (p : ℕ) (steps : List Step) (outputs amounts : List ℕ) (scratch : ℕ) : Type 0 where
  pub legal : Legal p steps outputs
  pub amounts_fit : length amounts ≡ p * length outputs
  pub room : scratch_size p (length steps) ≤ scratch

pub fitting : (p : ℕ) (steps : List Step) (outputs amounts : List ℕ) (scratch : ℕ) → fitting_rule p steps outputs amounts scratch ≡ fine
    → Fitting p steps outputs amounts scratch
unfolding fitting_rule legal_rule
fitting p steps outputs amounts scratch e =
    let a = then_fine _ _ e in
    let k = then_fine _ _ a.1 in
    let f = then_fine _ _ k.1 in
    record {
      legal = sym (pass _ _ fine (sym a.0) (sym f.0));
      amounts_fit = amounts_fit p (length outputs) amounts k.0;
      room = not_lt _ _ (refuse_if_fine _ 5 0 f.1);
    }

pub fits : (p : ℕ) (steps : List Step) (outputs amounts : List ℕ) (scratch : ℕ) → Fitting p steps outputs amounts scratch
    → fitting_rule p steps outputs amounts scratch ≡ fine
unfolding fitting_rule legal_rule
fits p steps outputs amounts scratch f =
    let a = then_fine _ _ f.legal in
    sym
    (pass _ _ fine (sym a.0)
    (pass _ _ fine (sym (fit_amounts p (length outputs) amounts f.amounts_fit))
    (pass _ _ fine (sym a.1) (refuse_no _ 5 0 (lt_no _ _ f.room)))))
