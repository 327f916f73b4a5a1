-- A column begins with value 0 and the bases in the scratch, whose first p + 1 cells were cleared: so its sums are the exponents.
use mathlib.Core.Path.{◌≡◌, ap, ap₂, subst, ◌∙◌}
use mathlib.Core.List.{List, ◌∷◌}
use Prim.Native.Nat.{ℕ, ◌+◌, ◌<◌}
use native.Mathlib.Omega.{arith}
use native.Mathlib.Numerals.{add-one}
use lib.ListN.{length, take, drop, set, replicate, length-set, length-replicate}
use lib.Seq.{take-set-lt}
use Rattle.chain.specs.Written.{over}
use Rattle.chain.specs.Chain.{values, exponents}
use Rattle.chain.specs.declared.Step.{Step}
use Rattle.chain.proofs.Exponents.{length-exponents}
use Rattle.chain.proofs.Written.{take-over, over-length, over-set, over_over}
use Rattle.verify.specs.Verify.{first_over}
use Rattle.verify.specs.Inner.{column_start, steps_before, SummedUp}

-- `d` is the scratch as lent, `d'` once it was cleared
pub column_started : (p c : ℕ) (d d' : List ℕ) → d' ≡ over (replicate (p + 1) 0) d → set d' (c + 1) 1 ≡ column_start p c d
unfolding column_start
column_started p c d d' e = ap (λ (l : List ℕ). set l (c + 1) 1) e

pub length_started : (p c : ℕ) (d : List ℕ) → p < length d → length (column_start p c d) ≡ length d
unfolding column_start
length_started p c d h =
    length-set (over (replicate (p + 1) 0) d) (c + 1) 1 ∙ over-length (replicate (p + 1) 0) d (omega (arith, length-replicate {A = ℕ} (p + 1) 0))

module _ (p c : ℕ) (d : List ℕ) (h : c < p) where
  start_sums : (steps : List Step) → values ◌+◌ (take (p + 1) (column_start p c d)) steps ≡ exponents p c steps
  unfolding exponents column_start
  start_sums steps = ap (λ (vs : List ℕ). values ◌+◌ vs steps) front
    where
      front : take (p + 1) (set (over (replicate (p + 1) 0) d) (c + 1) 1) ≡ 0 ∷ set (replicate p 0) c 1
      front =
          take-set-lt (p + 1) (over (replicate (p + 1) 0) d) (c + 1) 1 (omega arith)
          ∙ ap (λ (t : List ℕ). set t (c + 1) 1) (take-over (p + 1) (replicate (p + 1) 0) d (length-replicate (p + 1) 0))
          ∙ ap₂ (λ (m k : ℕ). set (replicate m 0) k 1) (add-one p) (add-one c)

  -- the start shows nowhere once exponents are written
  start_over : (steps : List Step) → over (exponents p c steps) (column_start p c d) ≡ over (exponents p c steps) d
  unfolding column_start
  start_over steps =
      let n : length (exponents p c steps) ≡ p + 1 + length steps = length-exponents p c steps in
      over-set (exponents p c steps) (over (replicate (p + 1) 0) d) (c + 1) 1 (omega arith)
      ∙ over_over (replicate (p + 1) 0) (exponents p c steps) d (omega (arith, length-replicate {A = ℕ} (p + 1) 0))

  -- `d'` is the scratch with the start in it, `r` the place that the sums give, `d''` the scratch after them
  pub start_summed : (steps : List Step) (r : ℕ) (d' d'' : List ℕ) → d' ≡ column_start p c d
      → SummedUp p (values ◌+◌ (take (p + 1) d')) steps d' d'' r → SummedUp p (exponents p c) steps d d'' r
  start_summed steps r d' d'' e s' =
      let s : SummedUp p (values ◌+◌ (take (p + 1) (column_start p c d))) steps (column_start p c d) d'' r =
      subst (λ (l : List ℕ). SummedUp p (values ◌+◌ (take (p + 1) l)) steps l d'' r) e s' in
      let before : List Step = steps_before r steps in
      record {
        place = s.place ∙ ap (λ (t : List ℕ). first_over 1 (drop (p + 1) t)) (start_sums steps);
        cells = s.cells ∙ ap (λ (t : List ℕ). over t (column_start p c d)) (start_sums before) ∙ start_over before;
      }
