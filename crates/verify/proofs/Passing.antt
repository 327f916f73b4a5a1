-- What passing the check means: the chain is legal, no exponent exceeds the limit, and each output's exponents are its payslip.
use mathlib.Core.Path.{◌≡◌, sym}
use mathlib.Core.List.{List}
use Prim.Native.Nat.{ℕ, zero, suc, ◌+◌, ◌-◌, ◌*◌, ◌≤◌, ◌<◌}
use native.Mathlib.Decide.{dec_lt, ℕ_discrete}
use native.Mathlib.Omega.{arith}
use lib.ListN.{length, get_or, drop, length-drop}
use lib.Seq.{get_or-drop}
use Rattle.chain.specs.Verdict.{fine}
use Rattle.chain.specs.Chain.{most_amount, Legal, exponents, exponent_of}
use Rattle.chain.specs.declared.Step.{Step}
use Rattle.chain.proofs.Rules.{then_fine, refuse_at_fine, pass}
use Rattle.chain.proofs.Exponents.{Makes, Within, length-exponents, exponent_zero, exponent_unit, exponent_other}
use Rattle.chain.proofs.Limits.{outputs_low}
use Rattle.sheet.specs.Sheet.{amount}
use Rattle.verify.specs.Verify.{first_over, scratch_size, exponents_rule, payslips_rule, verify_rule}
use Rattle.verify.proofs.Places.{earliest_none, none_earliest}
use Rattle.verify.proofs.Over.{over_none, none_over}
use Rattle.verify.proofs.Other.{other_none, none_other}
use Rattle.verify.proofs.Columns.{large_in, other_in, at_none}
use Rattle.chain.proofs.Legal.{legal_parts, chain_parts}
use Rattle.verify.proofs.Fitting.{fitting, fits}

pub record Passing (p : ℕ) (steps : List Step) (outputs amounts : List ℕ) : Type 0 where
  pub legal : Legal p steps outputs
  pub amounts_fit : length amounts ≡ p * length outputs
  pub low : Within p steps most_amount
  pub made : (i : ℕ) → i < length outputs → Makes p steps (get_or outputs i 0) (λ c. amount p amounts i c)

-- value 0 and the bases have no exponent above 1
start_low : (p : ℕ) (steps : List Step) (c v : ℕ) → c < p → v ≤ p → exponent_of p steps c v ≤ 1
start_low p steps c zero h g = omega (arith, exponent_zero p c steps)
start_low p steps c (suc b) h g = by_base (ℕ_discrete b c)
  where
    by_base : Dec (b ≡ c) → exponent_of p steps c (suc b) ≤ 1
    by_base (yes is) =
        let e : suc b ≡ c + 1 = omega arith in
        rw e (omega (arith, exponent_unit p c steps h))
    by_base (no not) =
        let e : suc b ≡ b + 1 = omega arith in
        rw e (omega (arith, exponent_other p c steps b (omega arith) not))

-- the steps' exponents alone decide whether any is too large
module _ (p : ℕ) (steps : List Step) where
  pub exponents_within : exponents_rule p steps ≡ fine → Within p steps most_amount
  unfolding exponents_rule
  exponents_within e = record { low = λ v c h g. by_value v c h g (dec_lt p v) }
    where
      by_value : (v c : ℕ) → v ≤ p + length steps → c < p → Dec (p < v) → exponent_of p steps c v ≤ most_amount
      by_value v c h g (yes step) =
          let i : ℕ = v - (p + 1) in
          let at : p + 1 + i ≡ v = omega arith in
          let none : first_over 1 (drop (p + 1) (exponents p c steps)) ≡ 0 = earliest_none p (large_in p steps) (refuse_at_fine 13 _ e) c g in
          let low = over_none 0 (drop (p + 1) (exponents p c steps)) none i (omega (arith, length-drop (p + 1) (exponents p c steps), length-exponents p c steps)) in
          rw (get_or-drop (p + 1) (exponents p c steps) i 0, at) at low
      by_value v c h g (no start) = omega (arith, start_low p steps c v g (omega arith))

  pub within_exponents : Within p steps most_amount → fine ≡ exponents_rule p steps
  unfolding exponents_rule
  within_exponents w = at_none 13 _ (none_earliest p (large_in p steps) (λ c g. none_over 1 (drop (p + 1) (exponents p c steps)) (low c g)))
    where
      low : (c : ℕ) → c < p → (i : ℕ) → i < length (drop (p + 1) (exponents p c steps)) → get_or (drop (p + 1) (exponents p c steps)) i 0 ≤ most_amount
      low c g i h =
          rw (get_or-drop (p + 1) (exponents p c steps) i 0)
          (w.low (p + 1 + i) c (omega (arith, length-drop (p + 1) (exponents p c steps), length-exponents p c steps)) g)

module _ (p : ℕ) (steps : List Step) (outputs amounts : List ℕ) where
  payslips_made : payslips_rule p amounts steps outputs ≡ fine → (i : ℕ) → i < length outputs → (c : ℕ) → c < p
      → exponent_of p steps c (get_or outputs i 0) ≡ amount p amounts i c
  unfolding payslips_rule
  payslips_made e i h c g =
      let z : 0 + i ≡ i = omega arith in
      rw z at (other_none p c amounts (exponents p c steps) 0 outputs (earliest_none p (other_in p amounts steps outputs) (refuse_at_fine 14 _ e) c g) i h)

  made_payslips : ((i : ℕ) → i < length outputs → Makes p steps (get_or outputs i 0) (λ c. amount p amounts i c)) → fine ≡ payslips_rule p amounts steps outputs
  unfolding payslips_rule
  made_payslips m = at_none 14 _ (none_earliest p (other_in p amounts steps outputs) (λ c g. none_other p c amounts (exponents p c steps) 0 outputs (same c g)))
    where
      same : (c : ℕ) → c < p → (i : ℕ) → i < length outputs → exponent_of p steps c (get_or outputs i 0) ≡ amount p amounts (0 + i) c
      same c g i h =
          let z : 0 + i ≡ i = omega arith in
          rw z ((m i h).exponent c g)

  pub verify_passes : (scratch : ℕ) → verify_rule p steps outputs amounts scratch ≡ fine → Passing p steps outputs amounts
  unfolding verify_rule
  verify_passes scratch e =
      let a = then_fine _ _ e in
      let b = then_fine _ _ a.1 in
      let f = fitting p steps outputs amounts scratch a.0 in
      let parts = chain_parts p steps outputs (legal_parts p steps outputs f.legal).chain in
      record {
        legal = f.legal;
        amounts_fit = f.amounts_fit;
        low = exponents_within p steps b.0;
        made = λ i h. record { there = outputs_low _ 1 outputs parts.1 i h; exponent = λ c g. payslips_made b.1 i h c g };
      }

  pub passes_verify : (scratch : ℕ) → Passing p steps outputs amounts → scratch_size p (length steps) ≤ scratch
      → verify_rule p steps outputs amounts scratch ≡ fine
  unfolding verify_rule
  passes_verify scratch w room =
      let f = fits p steps outputs amounts scratch (record { legal = w.legal; amounts_fit = w.amounts_fit; room = room }) in
      sym (pass _ _ fine (sym f) (pass _ _ fine (within_exponents p steps w.low) (made_payslips w.made)))
