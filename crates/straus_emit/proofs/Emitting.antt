-- Digits are emitted from the top down: each turn of Horner's rule appends its steps, and there is room because all of them together have it.
use mathlib.Core.Path.{◌≡◌, refl, ap, ap₂, ◌∙◌}
use mathlib.Core.List.{List}
use Prim.Native.Nat.{ℕ, zero, suc, ◌+◌, ◌-◌, ◌≤◌, ◌<◌}
use native.Mathlib.Omega.{arith}
use Rattle.chain.specs.declared.Step.{Step}
use Rattle.products.specs.Product.{Made, made, times, squared}
use Rattle.products.specs.Inner.{steps_in, StepsRoom, Emitted}
use Rattle.products.specs.declared.Progress.{Progress}
use Rattle.products.proofs.Sound.{Begins, begins_own, begins_on, begins_rise}
use Rattle.products.proofs.Product.{times_begins, squared_begins}
use Rattle.products.proofs.Emitted.{emitted_own, emits_room, emits_on}
use Rattle.straus.specs.Straus.{straus_digits, horner, straus_payslip, digit_vector, bases}
use Rattle.tables.specs.Table.{entry}

-- squared k times, then times y
module _ (p k : ℕ) (n : Progress) (v y : ℕ) (cells : List ℕ) where
  abbrev start : Made
  start = made (steps_in cells n.steps) v

  pub squares_room : StepsRoom p cells n (times p (squared p k start) y).steps → StepsRoom p cells n (squared p k start).steps
  squares_room room = emits_room room (squared p k) (emitted_own p cells n v _ room) (squared_begins p start 0 k (omega arith)) (times_begins p (squared p k start) y)

  pub times_room : (cells' : List ℕ) (n' : Progress) (v' : ℕ) → StepsRoom p cells n (times p (squared p k start) y).steps → Emitted cells cells' n' v' (squared p k start)
      → StepsRoom p cells' n' (times p (made (steps_in cells' n'.steps) v') y).steps
  times_room cells' n' v' room e = emits_room room (λ m. times p m y) e (times_begins p (squared p k start) y) (begins_own _)

  pub digit_taken : (cells' cells'' : List ℕ) (n' n'' : Progress) (v' v'' : ℕ) → Emitted cells cells' n' v' (squared p k start)
      → Emitted cells' cells'' n'' v'' (times p (made (steps_in cells' n'.steps) v') y) → Emitted cells cells'' n'' v'' (times p (squared p k start) y)
  digit_taken cells' cells'' n' n'' v' v'' e t = emits_on (λ m. times p m y) e (times_begins p (squared p k start) y) t

pub ruleset taking = (squares_room, times_room, digit_taken)

-- the first d of J digits, the top one first, e j being the value for digit j
module _ (p k : ℕ) (e : ℕ → ℕ) (J : ℕ) where
  next_begins : (before : List Step) (d : ℕ) → Begins (horner p k e J before d).steps (horner p k e J before (suc d)).steps
  next_begins before d =
      let m = horner p k e J before d in
      begins_on (squared_begins p m 0 k (omega arith)) (times_begins p (squared p k m) _)

  digits_begin : (before : List Step) (c d : ℕ) → c ≤ d → Begins (horner p k e J before c).steps (horner p k e J before d).steps
  digits_begin before = begins_rise (λ d. (horner p k e J before d).steps) (next_begins before)

  -- digit j - 1 after those above it, y being its value
  module _ (old : List ℕ) (n : Progress) (cells : List ℕ) (m : Progress) (v j y : ℕ) (some : 0 < j) (within : j ≤ J) (value : y ≡ e (j - 1))
      (so_far : Emitted old cells m v (horner p k e J (steps_in old n.steps) (J - j))) where
    next_made : Made → Made
    next_made r = times p (squared p k r) y

    next_is : next_made (horner p k e J (steps_in old n.steps) (J - j)) ≡ horner p k e J (steps_in old n.steps) (suc (J - j))
    unfolding next_made
    next_is =
        let place : j - 1 ≡ J - suc (J - j) = omega arith in
        ap (times p (squared p k (horner p k e J (steps_in old n.steps) (J - j)))) (value ∙ ap e place)

    more : Begins (horner p k e J (steps_in old n.steps) (J - j)).steps (next_made (horner p k e J (steps_in old n.steps) (J - j))).steps
    more = rw next_is (next_begins (steps_in old n.steps) (J - j))

    pub digit_room : StepsRoom p old n (horner p k e J (steps_in old n.steps) J).steps → StepsRoom p cells m (times p (squared p k (made (steps_in cells m.steps) v)) y).steps
    unfolding next_made
    digit_room room = emits_room room next_made so_far more (rw next_is (digits_begin (steps_in old n.steps) (suc (J - j)) J (omega arith)))

    pub digit_on : (cells' : List ℕ) (m' : Progress) (v' : ℕ) → Emitted cells cells' m' v' (times p (squared p k (made (steps_in cells m.steps) v)) y)
        → Emitted old cells' m' v' (horner p k e J (steps_in old n.steps) (J - (j - 1)))
    unfolding next_made
    digit_on cells' m' v' f =
        let next : J - (j - 1) ≡ suc (J - j) = omega arith in
        rw (next, ← next_is) (emits_on next_made so_far more f)

  -- values that are equal one by one make the same
  pub horner_same : (f : ℕ → ℕ) → ((j : ℕ) → e j ≡ f j) → (before : List Step) (d : ℕ) → horner p k e J before d ≡ horner p k f J before d
  horner_same f same before zero = refl
  horner_same f same before (suc d) = ap₂ (λ (m : Made) (y : ℕ). times p (squared p k m) y) (horner_same f same before d) (same (J - suc d))

-- a payslip only appends steps
pub payslip_begins : (p : ℕ) (amounts : List ℕ) (k i : ℕ) (before : List Step) → Begins before (straus_payslip p amounts k i before).steps
payslip_begins p amounts k i before = digits_begin p k (λ j. entry k (bases p) (p + 1) (digit_vector p amounts k i j)) (straus_digits p amounts k i) before 0 (straus_digits p amounts k i) (omega arith)
