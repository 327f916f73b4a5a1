-- What refusals 13 and 14 mean (Spec 10.1, 10.3): their place is the first step or payslip to which they apply in some column.
use mathlib.Core.Path.{◌≡◌, refl, sym, ap, ◌∙◌}
use mathlib.Core.Logic.{◌↔◌}
use mathlib.Core.List.{List}
use Prim.Native.Nat.{ℕ, suc, ◌+◌, ◌-◌, ◌<◌}
use native.Mathlib.Decide.{dec_lt, ℕ_discrete}
use native.Mathlib.Numerals.{add-one}
use native.Mathlib.Omega.{arith}
use lib.ListN.{length, get_or}
use Rattle.chain.specs.Verdict.{refused}
use Rattle.chain.specs.Chain.{most_amount, exponents, exponent_of}
use Rattle.chain.specs.declared.Step.{Step}
use Rattle.chain.proofs.Rules.{stop, pass}
use Rattle.chain.proofs.Exponents.{Within, length-exponents}
use Rattle.sheet.specs.Sheet.{amount}
use Rattle.verify.specs.Verify.{exponents_rule, payslips_rule, verify_rule}
use Rattle.verify.proofs.Over.{over_left, over_start, over_on, over_bad, over_end}
use Rattle.verify.proofs.Other.{other_left, other_start, other_on, other_bad, other_end}
use Rattle.verify.proofs.Columns.{large_in, other_in}
use Rattle.verify.proofs.First.{First, InSome, FirstPlace, walked, earliest_place, refused_first}
use Rattle.verify.proofs.Fitting.{Fitting, fitting, fits}
use Rattle.verify.proofs.Numbers.{Never, from_second, from_first, never_at, never_fitting}
use Rattle.verify.proofs.Passing.{exponents_within, within_exponents}

-- step s has an exponent above the limit in some column
abbrev pub TooLarge : ℕ → List Step → ℕ → Type 0
TooLarge p steps s = InSome p (λ c. most_amount < exponent_of p steps c (p + s))

-- output i has its payslip's amount for an exponent in column c
abbrev pub Same : ℕ → List ℕ → List Step → List ℕ → ℕ → ℕ → Type 0
Same p amounts steps outputs i c = exponent_of p steps c (get_or outputs (i - 1) 0) ≡ amount p amounts (i - 1) c

-- the exponents of output i are not its payslip, in some column
abbrev pub Differs : ℕ → List ℕ → List Step → List ℕ → ℕ → Type 0
Differs p amounts steps outputs i = InSome p (λ c. Same p amounts steps outputs i c → ⊥)

-- the exponents of the steps, which are walked over in each column
module _ (p : ℕ) (steps : List Step) where
  large_place : (c : ℕ) → FirstPlace (length steps) (λ s. most_amount < exponent_of p steps c (p + s)) (large_in p steps c)
  large_place c =
      rw (over_start p w)
      (walked (length steps) _ (λ s. dec_lt most_amount (exponent_of p steps c (p + s))) (over_left p w) found on none)
    where
      w : List ℕ
      w = exponents p c steps

      place : (k : ℕ) → p + suc k ≡ p + k + 1
      place k = omega arith

      found : (k : ℕ) → k < length steps → most_amount < get_or w (p + suc k) 0 → over_left p w k ≡ suc k
      found k h high = sym (over_bad p w k _ (omega (arith, length-exponents p c steps)) (rw (place k) at high) refl) ∙ add-one k

      on : (k : ℕ) → k < length steps → (most_amount < get_or w (p + suc k) 0 → ⊥) → over_left p w k ≡ over_left p w (suc k)
      on k h not =
          let low = rw (place k) at not in
          over_on p w k _ (omega (arith, length-exponents p c steps)) (omega arith) refl ∙ ap (over_left p w) (add-one k)

      none : over_left p w (length steps) ≡ 0
      none = sym (over_end p w (length steps) _ (omega (arith, length-exponents p c steps)) refl)

  -- 13 at place s: step s has too large an exponent in some column, and no earlier step has one in any
  pub refused_13 : (s : ℕ) → exponents_rule p steps ≡ refused 13 s ↔ First (length steps) (TooLarge p steps) s
  unfolding exponents_rule
  refused_13 s =
      refused_first (length steps) (TooLarge p steps) 13 s _
      (earliest_place (length steps) _ p (large_in p steps) (λ c h. large_place c))

  exponents_own : Never 14 (exponents_rule p steps)
  unfolding exponents_rule
  exponents_own = never_at 14 13 _ (λ e. omega arith)

-- the payslips, likewise
module _ (p : ℕ) (amounts : List ℕ) (steps : List Step) (outputs : List ℕ) where
  other_place : (c : ℕ) → FirstPlace (length outputs) (λ i. Same p amounts steps outputs i c → ⊥) (other_in p amounts steps outputs c)
  other_place c = rw (other_start p c amounts es outputs) (walked (length outputs) _ (λ i. differs (test i)) left found on none)
    where
      es : List ℕ
      es = exponents p c steps

      left : ℕ → ℕ
      left = other_left p c amounts es outputs

      test : (i : ℕ) → Dec (Same p amounts steps outputs i c)
      test i = ℕ_discrete (get_or es (get_or outputs (i - 1) 0) 0) (amount p amounts (i - 1) c)

      differs : {A : Type 0} → Dec A → Dec (A → ⊥)
      differs (yes is) = no (λ not. not is)
      differs (no not) = yes not

      place : (k : ℕ) → suc k - 1 ≡ k
      place k = omega arith

      found : (k : ℕ) → k < length outputs → (Same p amounts steps outputs (suc k) c → ⊥) → left k ≡ suc k
      found k h not = sym (other_bad p c amounts es outputs k (amount p amounts k c) _ h refl (rw (place k) at not) refl) ∙ add-one k

      on : (k : ℕ) → k < length outputs → ((Same p amounts steps outputs (suc k) c → ⊥) → ⊥) → left k ≡ left (suc k)
      on k h not = by_test (test (suc k))
        where
          by_test : Dec (Same p amounts steps outputs (suc k) c) → left k ≡ left (suc k)
          by_test (yes is) =
              other_on p c amounts es outputs k (amount p amounts k c) _ h refl (rw (place k) at is) refl ∙ ap left (add-one k)
          by_test (no other) = absurd (not other)

      none : left (length outputs) ≡ 0
      none = sym (other_end p c amounts es outputs (length outputs) _ (omega arith) refl)

  -- 14 at place i: the exponents of output i are not its payslip in some column, and no earlier payslip differs in any
  pub refused_14 : (i : ℕ)
      → payslips_rule p amounts steps outputs ≡ refused 14 i ↔ First (length outputs) (Differs p amounts steps outputs) i
  unfolding payslips_rule
  refused_14 i =
      refused_first (length outputs) (Differs p amounts steps outputs) 14 i _
      (earliest_place (length outputs) _ p (other_in p amounts steps outputs) (λ c h. other_place c))

  payslips_own : Never 13 (payslips_rule p amounts steps outputs)
  unfolding payslips_rule
  payslips_own = never_at 13 14 _ (λ e. omega arith)

-- of the whole check (Spec 4, 10.2): 13 where the chain and the sheet fit, 14 where besides no exponent is too large
module _ (p : ℕ) (steps : List Step) (outputs amounts : List ℕ) (scratch : ℕ) where
  pub check_13 : (s : ℕ) → verify_rule p steps outputs amounts scratch ≡ refused 13 s
      ↔ (Fitting p steps outputs amounts scratch × First (length steps) (TooLarge p steps) s)
  unfolding verify_rule
  check_13 s = (
    λ e.
        let a = from_second 13 s _ _ (never_fitting 13 (omega arith) p steps outputs amounts scratch) e in
        let b = from_first 13 s _ _ (payslips_own p amounts steps outputs) a.1 in
        (fitting p steps outputs amounts scratch a.0, (refused_13 p steps s).0 b),
    λ h. sym (pass _ _ _ (sym (fits p steps outputs amounts scratch h.0)) (stop _ _ 13 s (sym ((refused_13 p steps s).1 h.1)))),
  )

  pub check_14 : (i : ℕ) → verify_rule p steps outputs amounts scratch ≡ refused 14 i
      ↔ (Fitting p steps outputs amounts scratch × Within p steps most_amount × First (length outputs) (Differs p amounts steps outputs) i)
  unfolding verify_rule
  check_14 i = (
    λ e.
        let a = from_second 14 i _ _ (never_fitting 14 (omega arith) p steps outputs amounts scratch) e in
        let b = from_second 14 i _ _ (exponents_own p steps) a.1 in
        (fitting p steps outputs amounts scratch a.0, exponents_within p steps b.0, (refused_14 p amounts steps outputs i).0 b.1),
    λ h. sym
        (pass _ _ _ (sym (fits p steps outputs amounts scratch h.0))
        (pass _ _ _ (within_exponents p steps h.1) (sym ((refused_14 p amounts steps outputs i).1 h.2)))),
  )
