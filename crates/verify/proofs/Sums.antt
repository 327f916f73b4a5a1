-- The loop that sums one column in the scratch: the sum at hand is that step's value, so the first that is too large is met at its place.
use mathlib.Core.Path.{◌≡◌, sym, ap, ◌∙◌}
use mathlib.Core.List.{List}
use Prim.Native.Nat.{ℕ, ◌+◌, ◌≤◌, ◌<◌}
use native.Mathlib.Numerals.{add-one}
use native.Mathlib.Omega.{arith}
use lib.ListN.{length, get_or, take, drop, take-append-drop}
use lib.Seq.{length-take-le, get_or-set_same}
use Rattle.chain.specs.Verdict.{fine}
use Rattle.chain.specs.Written.{over}
use Rattle.chain.specs.Chain.{by, most_amount, steps_rule, values}
use Rattle.chain.specs.declared.Step.{Step}
use Rattle.chain.proofs.Values.{length-values, values_keep}
use Rattle.chain.proofs.Filling.{made_to, value_at, length-made, fill_on, fill_end}
use Rattle.chain.proofs.Written.{over-length, over_get_d}
use Rattle.verify.specs.Inner.{steps_before}
use Rattle.verify.proofs.Over.{over_left, over_on, over_bad, over_end}

-- the sums of all steps after the p + 1 values at the front of d
abbrev pub sums : ℕ → List Step → List ℕ → List ℕ
sums p l d = values ◌+◌ (take (p + 1) d) l

-- the step at hand: its number is in range, the steps are legal, and the scratch has room for all values
pub record AtStep (p : ℕ) (l : List Step) (d : List ℕ) (s : ℕ) : Type 0 where
  pub there : s < length l
  pub legal : steps_rule p 1 l ≡ fine
  pub room : p + length l < length d

-- `d` is the scratch as lent, `vs` as it is after s steps
module _ (p : ℕ) (l : List Step) (d : List ℕ) (s : ℕ) (vs : List ℕ) where
  long : p + length l < length d → length (sums p l d) ≡ p + length l + 1
  long room = omega (arith, length-values ◌+◌ (take (p + 1) d) l, length-take-le (p + 1) d (omega arith))

  -- the sum at hand is the value of the step
  sum_is : (x : Step) (v : ℕ) → AtStep p l d s → x ≡ get_or l s (by 0 0) → v ≡ value_at ◌+◌ x vs → vs ≡ made_to ◌+◌ p l s d → v ≡ get_or (sums p l d) (p + s + 1) 0
  unfolding made_to
  sum_is x v at is e made =
      let start : List ℕ = take (p + 1) d in
      let first : List Step = take (s + 1) l in
      let room = at.room in
      let there = at.there in
      let next = fill_on ◌+◌ p l s d vs x v there is at.legal room e made in
      let few = length-made ◌+◌ p l (s + 1) d (omega arith) (omega arith) in
      let so_far = length-made ◌+◌ p l s d (omega arith) (omega arith) in
      let front_low : length (values ◌+◌ start (take s l)) ≤ length d = omega arith in
      let same : length vs ≡ length d = ap length made ∙ over-length (values ◌+◌ start (take s l)) d front_low in
      sym (get_or-set_same vs (p + s + 1) v 0 (omega arith))
      ∙ ap (λ (t : List ℕ). get_or t (p + s + 1) 0) next
      ∙ over_get_d (values ◌+◌ start first) d (p + s + 1) (omega arith)
      ∙ sym (values_keep ◌+◌ start first (drop (s + 1) l) (p + s + 1) (omega (arith, length-values ◌+◌ start first)))
      ∙ ap (λ (t : List Step). get_or (values ◌+◌ start t) (p + s + 1) 0) (take-append-drop (s + 1) l)

  -- `f` is the place of the first sum that is too large
  module _ (f : ℕ) where
    pub sum_on : (x : Step) (v : ℕ) → AtStep p l d s → x ≡ get_or l s (by 0 0) → v ≡ value_at ◌+◌ x vs → vs ≡ made_to ◌+◌ p l s d → v ≤ most_amount
        → f ≡ over_left p (sums p l d) s → f ≡ over_left p (sums p l d) (s + 1)
    sum_on x v at is e made low w =
        over_on p (sums p l d) s f (omega (arith, long at.room, at.there)) (rw (sum_is x v at is e made) at low) w

    pub sum_bad : (x : Step) (v : ℕ) → AtStep p l d s → x ≡ get_or l s (by 0 0) → v ≡ value_at ◌+◌ x vs → vs ≡ made_to ◌+◌ p l s d → most_amount < v
        → f ≡ over_left p (sums p l d) s → s + 1 ≡ f
    sum_bad x v at is e made high w =
        over_bad p (sums p l d) s f (omega (arith, long at.room, at.there)) (rw (sum_is x v at is e made) at high) w

    pub sum-end : length l ≤ s → p + length l < length d → f ≡ over_left p (sums p l d) s → 0 ≡ f
    sum-end h room w = over_end p (sums p l d) s f (omega (arith, long room)) w

  -- the scratch where the sum of step s is too large, and after all steps
  pub sums_stopped : vs ≡ made_to ◌+◌ p l s d → vs ≡ over (values ◌+◌ (take (p + 1) d) (steps_before (s + 1) l)) d
  unfolding made_to steps_before
  sums_stopped made = rw (add-one s) made

  pub sums_all : length l ≤ s → vs ≡ made_to ◌+◌ p l s d → vs ≡ over (values ◌+◌ (take (p + 1) d) (steps_before 0 l)) d
  unfolding steps_before
  sums_all h made = fill_end ◌+◌ p l s d vs h made
