-- Column after column the earliest places are kept; at the end they are the verdict's, 13 before 14.
use mathlib.Core.Path.{◌≡◌, refl, sym, ap, ap₂, ◌∙◌}
use mathlib.Core.Bool.{Bool, cond}
use mathlib.Core.List.{List}
use Prim.Native.Nat.{ℕ, zero, suc, ◌+◌, ◌≤◌, ◌<◌}
use native.Mathlib.Nat.{le_refl}
use native.Mathlib.Omega.{arith}
use lib.ListN.{length, get_or, drop, length-take}
use Rattle.chain.specs.Verdict.{fine, refused, ◌then◌, refuse_at}
use Rattle.chain.specs.Written.{over}
use Rattle.chain.specs.Chain.{outputs_rule, exponents}
use Rattle.chain.specs.declared.Step.{Step}
use Rattle.chain.proofs.Rules.{eq_yes, eq_no}
use Rattle.chain.proofs.Exponents.{length-exponents}
use Rattle.chain.proofs.Written.{past_over}
use Rattle.chain.proofs.Limits.{outputs_low}
use Rattle.verify.specs.Verify.{earlier, earliest, first_over, first_other, exponents_rule, payslips_rule}
use Rattle.verify.specs.Inner.{steps_before, SummedUp, taken_up, found_in}
use Rattle.verify.specs.declared.Found.{Found}
use Rattle.verify.proofs.Places.{earlier_none, earliest_next}
use Rattle.verify.proofs.Other.{other_over}

-- the first step with too large an exponent in column c
abbrev pub large_in : ℕ → List Step → ℕ → ℕ
large_in p steps c = first_over 1 (drop (p + 1) (exponents p c steps))

-- the first payslip whose amount in column c is not its output's exponent
abbrev pub other_in : ℕ → List ℕ → List Step → List ℕ → ℕ → ℕ
other_in p amounts steps outputs c = first_other p c amounts (exponents p c steps) 0 outputs

-- the scratch after the sums of column c, of which none is too large
pub summed_all : (p c : ℕ) (steps : List Step) (d vs : List ℕ) (place : ℕ) → SummedUp p (exponents p c) steps d vs place → place ≡ 0
    → vs ≡ over (exponents p c steps) d
unfolding steps_before
summed_all p c steps d vs place s none = s.cells ∙ ap (λ (k : ℕ). over (exponents p c (steps_before k steps)) d) none

-- no cell past the values changed, whatever was found
pub summed_past : (p c top : ℕ) (steps : List Step) (d vs : List ℕ) (place : ℕ) → top ≡ p + length steps + 1 → SummedUp p (exponents p c) steps d vs place
    → drop top vs ≡ drop top d
unfolding steps_before
summed_past p c top steps d vs place e s =
    ap (drop top) s.cells
    ∙ past_over top (exponents p c (steps_before place steps)) d (omega (arith, e, length-exponents p c (steps_before place steps), before_few place))
  where
    before_few : (k : ℕ) → length (steps_before k steps) ≤ length steps
    before_few zero = le_refl _
    before_few (suc k) = omega (arith, length-take k steps)

-- column c compared, where no exponent was too large: `vs` is the scratch after its sums, `r` the place found in it
pub other_next : (p c : ℕ) (amounts : List ℕ) (steps : List Step) (outputs : List ℕ) (large place large' other r other' : ℕ) (d vs : List ℕ)
    → outputs_rule (p + length steps) 1 outputs ≡ fine → large' ≡ earlier large place → large' ≡ 0 → SummedUp p (exponents p c) steps d vs place
    → (large ≡ 0 → other ≡ earliest c (other_in p amounts steps outputs)) → r ≡ first_other p c amounts vs 0 outputs → other' ≡ earlier other r
    → other' ≡ earliest (c + 1) (other_in p amounts steps outputs)
other_next p c amounts steps outputs large place large' other r other' d vs ok e z summed before found e' =
    let none = earlier_none large place (sym e ∙ z) in
    let stands = summed_all p c steps d vs place summed none.1 in
    earliest_next c (other_in p amounts steps outputs) other r other' e' (before none.0)
    (found ∙ ap (λ (t : List ℕ). first_other p c amounts t 0 outputs) stands ∙ other_over p c amounts (exponents p c steps) d 0 outputs low)
  where
    low : (i : ℕ) → i < length outputs → get_or outputs i 0 < length (exponents p c steps)
    low i h = omega (arith, outputs_low (p + length steps) 1 outputs ok i h, length-exponents p c steps)

-- a place, or none, as a verdict
pub at_some : (n k s : ℕ) → (s ≡ 0 → ⊥) → s ≡ k → refused n s ≡ refuse_at n k
unfolding refuse_at
at_some n k zero some e = absurd (some refl)
at_some n k (suc s) some e = rw (← e)

pub at_none : (n k : ℕ) → k ≡ 0 → fine ≡ refuse_at n k
unfolding refuse_at
at_none n k e = rw e

-- the verdict from the places of all columns
module _ (p : ℕ) (steps : List Step) (c large : ℕ) (h : p ≤ c) (h' : c ≤ p) (e : large ≡ earliest c (large_in p steps)) where
  in_all : large ≡ earliest p (large_in p steps)
  in_all =
      let q : c ≡ p = omega arith in
      e ∙ ap (λ (k : ℕ). earliest k (large_in p steps)) q

  pub exponents_large : (large ≡ 0 → ⊥) → refused 13 large ≡ exponents_rule p steps
  unfolding exponents_rule
  exponents_large some = at_some 13 _ large some in_all

  pub exponents_fine : large ≡ 0 → fine ≡ exponents_rule p steps
  unfolding exponents_rule
  exponents_fine none = at_none 13 _ (sym in_all ∙ none)

-- what was found is that of the first c columns
pub record HeldTo (p : ℕ) (amounts : List ℕ) (steps : List Step) (outputs : List ℕ) (c : ℕ) (f : Found) : Type 0 where
  pub large_is : f.large ≡ earliest c (large_in p steps)
  pub other_is : f.large ≡ 0 → f.other ≡ earliest c (other_in p amounts steps outputs)

module _ (p : ℕ) (amounts : List ℕ) (steps : List Step) (outputs : List ℕ) where
  pub held_none : HeldTo p amounts steps outputs 0 (record { large = 0; other = 0 })
  held_none = record { large_is = refl; other_is = λ z. refl }

  -- one column more
  pub held_next : (c : ℕ) (f f' : Found) (place : ℕ) (d vs : List ℕ) → outputs_rule (p + length steps) 1 outputs ≡ fine
      → SummedUp p (exponents p c) steps d vs place → f' ≡ taken_up f place p c amounts vs outputs
      → HeldTo p amounts steps outputs c f → HeldTo p amounts steps outputs (c + 1) f'
  unfolding taken_up
  held_next c f f' place d vs ok summed e held =
      let large : f'.large ≡ earlier f.large place = ap (λ (g : Found). g.large) e in
      record {
        large_is = earliest_next c (large_in p steps) f.large place f'.large large held.large_is summed.place;
        other_is = λ z. other_next p c amounts steps outputs f.large place f'.large f.other _ f'.other d vs ok large z summed held.other_is refl
            (ap (λ (g : Found). g.other) e
            ∙ ap (λ (t : Bool). cond t (earlier f.other (first_other p c amounts vs 0 outputs)) f.other) (eq_yes (earlier f.large place) 0 (sym large ∙ z)));
      }

  -- the verdict from the places of all columns
  pub held_all : (c : ℕ) (f : Found) → p ≤ c → c ≤ p → HeldTo p amounts steps outputs c f
      → found_in f ≡ (exponents_rule p steps then payslips_rule p amounts steps outputs)
  unfolding exponents_rule payslips_rule ◌then◌ refuse_at
  held_all c f h h' held = by_large f.large refl
    where
      all : c ≡ p
      all = omega arith

      large_all : f.large ≡ earliest p (large_in p steps)
      large_all = held.large_is ∙ ap (λ (k : ℕ). earliest k (large_in p steps)) all

      by_large : (k : ℕ) → f.large ≡ k → found_in f ≡ (refuse_at 13 (earliest p (large_in p steps)) then refuse_at 14 (earliest p (other_in p amounts steps outputs)))
      by_large zero e =
          ap₂ (λ (j k : ℕ). refuse_at 13 j then refuse_at 14 k) large_all
          (held.other_is e ∙ ap (λ (k : ℕ). earliest k (other_in p amounts steps outputs)) all)
      by_large (suc k) e =
          ap (λ (j : ℕ). refuse_at 13 j then refuse_at 14 f.other) e
          ∙ sym (ap (λ (j : ℕ). refuse_at 13 j then refuse_at 14 (earliest p (other_in p amounts steps outputs))) (sym large_all ∙ e))

-- a column taken up: with an exponent too large, and with none
module _ (f : Found) (place p c : ℕ) (amounts scratch outputs : List ℕ) (large : ℕ) (e : large ≡ earlier f.large place) where
  pub taken_large : (large ≡ 0 → ⊥) → record { large = large; other = f.other } ≡ taken_up f place p c amounts scratch outputs
  unfolding taken_up
  taken_large some = rw (← e, eq_no large 0 some)

  pub taken_other : (r other : ℕ) → large ≡ 0 → r ≡ first_other p c amounts scratch 0 outputs → other ≡ earlier f.other r
      → record { large = large; other = other } ≡ taken_up f place p c amounts scratch outputs
  unfolding taken_up
  taken_other r other none d g = rw (← e, eq_yes large 0 none, g, d)
