-- A payslip is emitted column by column: each column's products are swept and joined to the product so far, after the powers that its place tells.
use mathlib.Core.Path.{◌≡◌, refl, ap, subst, ◌∙◌}
use mathlib.Core.List.{List}
use Prim.Native.Nat.{ℕ, suc, ◌+◌, ◌-◌, ◌*◌, ◌^◌, ◌≤◌, ◌<◌}
use native.Mathlib.Numerals.{add-one}
use native.Mathlib.Omega.{arith}
use Rattle.chain.specs.declared.Step.{Step}
use Rattle.digits.specs.Range.{sum_to}
use Rattle.digits.proofs.Range.{sum_on}
use Rattle.sheet.specs.Sheet.{amount}
use Rattle.products.specs.Product.{Made, made, times}
use Rattle.products.specs.Inner.{steps_in, StepsRoom, Emitted}
use Rattle.products.specs.declared.Progress.{Progress}
use Rattle.products.proofs.Sound.{Begins, begins_own, begins_on, begins_rise}
use Rattle.products.proofs.Product.{times_begins}
use Rattle.products.proofs.Emitted.{stored_own, stored_room, emits_room, emits_on}
use Rattle.methods.specs.Inner.{Asked}
use Rattle.yao.specs.Yao.{yao_digits, yao_squarings, Sweep, yao_payslip, yao_most}
use Rattle.yao.specs.Inner.{squarings_most}
use Rattle.yao_emit.specs.Inner.{Reach, sweep_in, joined, SweepEmitted, yao_slip}
use Rattle.yao_emit.specs.declared.Column.{Column}
use Rattle.yao_emit.proofs.Emitting.{sweep_begin}

join_begins : (col : Column) (m : Made) → Begins m.steps (joined col m).steps
join_begins col m =
    let r = sweep_in col m.steps (2 ^ col.k - 1) in
    begins_on (sweep_begin col m.steps 0 (2 ^ col.k - 1) (omega arith)) (times_begins col.p (made r.steps m.value) r.a)

-- a column's products, then the payslip's product times a
module _ (col : Column) (cells : List ℕ) (n : Progress) (v : ℕ) (room : StepsRoom col.p cells n (joined col (made (steps_in cells n.steps) v)).steps) where
  abbrev swept : Sweep
  swept = sweep_in col (steps_in cells n.steps) (2 ^ col.k - 1)

  into : Begins swept.steps (times col.p (made swept.steps v) swept.a).steps
  into = times_begins col.p (made swept.steps v) swept.a

  pub sweep_room : StepsRoom col.p cells n (sweep_in col (steps_in cells n.steps) (2 ^ col.k - 1)).steps
  sweep_room = stored_room room (stored_own cells n room.so_far) (sweep_begin col (steps_in cells n.steps) 0 (2 ^ col.k - 1) (omega arith)) into

  module _ (cells' : List ℕ) (n' : Progress) (a b : ℕ) (e : SweepEmitted cells cells' n' a b (sweep_in col (steps_in cells n.steps) (2 ^ col.k - 1))) where
    entered : Emitted cells cells' n' v (made swept.steps v)
    entered = record { stored = e.stored; value = refl }

    by_value : times col.p (made swept.steps v) a ≡ times col.p (made swept.steps v) swept.a
    by_value = ap (times col.p (made swept.steps v)) e.a_is

    pub join_room : StepsRoom col.p cells' n' (times col.p (made (steps_in cells' n'.steps) v) a).steps
    join_room =
        emits_room room (λ m. times col.p m a) entered (times_begins col.p _ a)
        (rw by_value (begins_own (times col.p (made swept.steps v) swept.a).steps))

    pub join_on : (cells'' : List ℕ) (n'' : Progress) (v'' : ℕ) → Emitted cells' cells'' n'' v'' (times col.p (made (steps_in cells' n'.steps) v) a)
        → Emitted cells cells'' n'' v'' (joined col (made (steps_in cells n.steps) v))
    join_on cells'' n'' v'' t =
        subst (λ (m : Made). Emitted cells cells'' n'' v'' m) by_value (emits_on (λ m. times col.p m a) entered (times_begins col.p _ a) t)

-- the columns of payslip i one after the other
module _ (p q : ℕ) (amounts : List ℕ) (k i : ℕ) where
  -- column c of the payslip, as the definition has it
  abbrev own : ℕ → Column
  own c =
      record { p = p; k = k; c = c; first = p + sum_to c (yao_squarings p q amounts k); digits = yao_digits p q amounts k c; x = amount p amounts i c }

  columns_begin : (before : List Step) (c d : ℕ) → c ≤ d → Begins (yao_payslip p q amounts k i before c).steps (yao_payslip p q amounts k i before d).steps
  columns_begin before =
      begins_rise (λ c. (yao_payslip p q amounts k i before c).steps) (λ c. join_begins (own c) (yao_payslip p q amounts k i before c))

  -- a payslip only appends steps
  pub slip_begins : (before : List Step) → Begins before (yao_slip p q amounts k i before).steps
  slip_begins before = columns_begin before 0 p (omega arith)

  -- the next column: J its digits, x its amount, first the value before its powers
  module _ (before : List Step) (old cells : List ℕ) (m : Progress) (v c first J x : ℕ) (e : Emitted old cells m v (yao_payslip p q amounts k i before c))
      (is-first : first ≡ p + sum_to c (yao_squarings p q amounts k)) (is-digits : J ≡ yao_digits p q amounts k c) (is-amount : x ≡ amount p amounts i c) where
    abbrev column : Column
    column = record { p = p; k = k; c = c; first = first; digits = J; x = x }

    next_is : joined column (yao_payslip p q amounts k i before c) ≡ yao_payslip p q amounts k i before (suc c)
    next_is = rw (is-first, is-digits, is-amount)

    more : Begins (yao_payslip p q amounts k i before c).steps (joined column (yao_payslip p q amounts k i before c)).steps
    more = join_begins column (yao_payslip p q amounts k i before c)

    pub column_room : (n : Progress) → StepsRoom p old n (yao_payslip p q amounts k i before p).steps → c < p
        → StepsRoom p cells m (joined column (made (steps_in cells m.steps) v)).steps
    column_room n room less = emits_room room (joined column) e more (rw next_is (columns_begin before (suc c) p less))

    pub column_on : (cells' : List ℕ) (m' : Progress) (v' : ℕ) → Emitted cells cells' m' v' (joined column (made (steps_in cells m.steps) v))
        → Emitted old cells' m' v' (yao_payslip p q amounts k i before (c + 1))
    column_on cells' m' v' t = rw (add-one c, ← next_is) (emits_on (joined column) e more t)

-- the value before the next column's powers
pub first_on : (p q : ℕ) (amounts : List ℕ) (k first c d r : ℕ) → d ≡ yao_digits p q amounts k c → r ≡ (d - 1) * k
    → first ≡ p + sum_to c (yao_squarings p q amounts k) → first + r ≡ p + sum_to (c + 1) (yao_squarings p q amounts k)
first_on p q amounts k first c d r e f g =
    let n : ℕ = sum_to c (yao_squarings p q amounts k) in
    omega (arith, sum_on (yao_squarings p q amounts k) c n r (f ∙ ap (λ (y : ℕ). (y - 1) * k) e) refl)

pub reaches : (col : Column) {q : ℕ} {amounts : List ℕ} → Asked yao_most col.p q amounts col.k → col.k * col.digits ≤ 31 + col.k → col.c < col.p
    → col.first ≤ col.p + squarings_most * col.c → Reach col
reaches col asked few less low =
    let columns = asked.sheet.p_low in
    record { some = asked.k_some; narrow = omega (arith, asked.k_low); few = few; base = omega arith; numbers = omega (arith, asked.k_low) }
