-- What is found before the scratch is used leaves it as it was; what is found after leaves it cleared, whatever the sums left there.
use mathlib.Core.Path.{◌≡◌, refl, ap, ap₂, ◌∙◌}
use mathlib.Core.List.{List, ◌++◌}
use Prim.Native.Nat.{ℕ, ◌+◌}
use lib.ListN.{length, drop, replicate, length-replicate}
use Rattle.chain.specs.Verdict.{Verdict, fine, refused, ◌then◌, Answer, done, refusal, answer, on_fine}
use Rattle.chain.specs.Written.{over}
use Rattle.chain.specs.Chain.{counts}
use Rattle.chain.specs.declared.Step.{Step}
use Rattle.chain.proofs.Rules.{stop, pass, answer_refused, answer_done}
use Rattle.verify.specs.Verify.{exponents_rule, payslips_rule, fitting_rule, verify_rule, verify_answer, verify_scratch}
use Rattle.verify.specs.Inner.{found_in, Finished}
use Rattle.verify.specs.declared.Found.{Found}
use Rattle.verify.proofs.Columns.{at_some, at_none}

-- the check's end, for what was found
module _ (f : Found) (passed : List ℕ) (top : ℕ) (old new : List ℕ) (cleared : new ≡ over (replicate top 0) old) where
  pub finish_large : (f.large ≡ 0 → ⊥) → Finished (found_in f) passed top old new (refusal 13 f.large)
  finish_large some = record { answered = answer_refused (found_in f) passed 13 f.large (stop _ _ 13 f.large (at_some 13 _ _ some refl)); cleared = cleared }

  pub finish_other : f.large ≡ 0 → (f.other ≡ 0 → ⊥) → Finished (found_in f) passed top old new (refusal 14 f.other)
  finish_other none some =
      record { answered = answer_refused (found_in f) passed 14 f.other (pass _ _ _ (at_none 13 _ none) (at_some 14 _ _ some refl)); cleared = cleared }

  pub finish_passed : f.large ≡ 0 → f.other ≡ 0 → Finished (found_in f) passed top old new (done passed)
  finish_passed none same = record { answered = answer_done (found_in f) passed (pass _ _ _ (at_none 13 _ none) (at_none 14 _ same)); cleared = cleared }

pub ruleset finishing = (finish_large, finish_other, finish_passed)

-- refused before the scratch is used
module _ (p : ℕ) (steps : List Step) (outputs amounts old : List ℕ) (n s : ℕ) (e : refused n s ≡ fitting_rule p steps outputs amounts (length old)) where
  pub early_answer : refusal n s ≡ verify_answer p steps outputs amounts (length old)
  unfolding verify_answer verify_rule answer
  early_answer =
      let f : refused n s ≡ (fitting_rule p steps outputs amounts (length old) then exponents_rule p steps then payslips_rule p amounts steps outputs) = stop _ _ n s e in
      rw (← f)

  pub early_scratch : old ≡ verify_scratch p steps outputs amounts old
  unfolding verify_scratch on_fine
  early_scratch = rw (← e)

-- held: `v` is the verdict then, `d` the scratch that holding left
module _ (p : ℕ) (steps : List Step) (outputs amounts old : List ℕ) (e : fine ≡ fitting_rule p steps outputs amounts (length old)) (v : Verdict)
    (passed : List ℕ) (top : ℕ) (d d' : List ℕ) (a : Answer) (ends : Finished v passed top d d' a) where
  pub late_answer : passed ≡ counts steps → v ≡ (exponents_rule p steps then payslips_rule p amounts steps outputs)
      → a ≡ verify_answer p steps outputs amounts (length old)
  unfolding verify_answer verify_rule
  late_answer told f = ends.answered ∙ ap₂ answer (pass _ _ v e f) told

  pub late_scratch : top ≡ p + length steps + 1 → drop top d ≡ drop top old → d' ≡ verify_scratch p steps outputs amounts old
  unfolding verify_scratch on_fine over
  late_scratch is past =
      rw (← e, ← is) (ends.cleared ∙ rw (length-replicate {A = ℕ} top 0) (ap (λ (t : List ℕ). replicate top 0 ++ t) past))
