-- A column's products are emitted power by power and d by d: each turn appends its steps, and there is room because the whole column has it.
use mathlib.Core.Path.{◌≡◌, refl, sym, ap, subst, ◌∙◌}
use mathlib.Core.List.{List}
use Prim.Native.Nat.{ℕ, suc, ◌+◌, ◌-◌, ◌*◌, ◌^◌, ◌≤◌, ◌<◌}
use native.Mathlib.Nat.{mul-le-mul_left, mul-suc}
use native.Mathlib.Decide.{ℕ_discrete}
use native.Mathlib.Numerals.{add-one}
use native.Mathlib.Omega.{arith}
use Rattle.chain.specs.declared.Step.{Step}
use Rattle.digits.specs.Digits.{digit}
use Rattle.products.specs.Product.{Made, made, times}
use Rattle.products.specs.Inner.{steps_in, StepsRoom, Emitted}
use Rattle.products.specs.declared.Progress.{Progress}
use Rattle.products.proofs.Sound.{Begins, begins_own, begins_on, begins_rise}
use Rattle.products.proofs.Product.{times_begins}
use Rattle.products.proofs.Emitted.{emitted_own, stored_own, emits_room, emits_on}
use Rattle.yao.specs.Yao.{gather_one, gather, Sweep}
use Rattle.yao_emit.specs.Inner.{Reach, power_in, gather_in, sweep_in, SweepEmitted}
use Rattle.yao_emit.specs.declared.Column.{Column}
use Rattle.yao.proofs.Gather.{one_yes, one_no}
use Rattle.yao.proofs.Measuring.{digit_place}

-- one power
module _ (p y d : ℕ) (cells : List ℕ) (n : Progress) (v w : ℕ) (room : StepsRoom p cells n (gather_one p y d (made (steps_in cells n.steps) v) w).steps) where
  pub one_room : y ≡ d → StepsRoom p cells n (times p (made (steps_in cells n.steps) v) w).steps
  one_room e = rw (one_yes p y d (made (steps_in cells n.steps) v) w e) at room

  pub one_times : (cells' : List ℕ) (n' : Progress) (v' : ℕ) → y ≡ d → Emitted cells cells' n' v' (times p (made (steps_in cells n.steps) v) w)
      → Emitted cells cells' n' v' (gather_one p y d (made (steps_in cells n.steps) v) w)
  one_times cells' n' v' e t = rw (one_yes p y d (made (steps_in cells n.steps) v) w e) t

  pub one_copy : (y ≡ d → ⊥) → Emitted cells cells n v (gather_one p y d (made (steps_in cells n.steps) v) w)
  one_copy ne = rw (one_no p y d (made (steps_in cells n.steps) v) w ne) (emitted_own p cells n v _ room)

pub ruleset gathering_one = (one_room, one_times, one_copy)

one_begins : (p y d : ℕ) (b : Made) (power : ℕ) → Begins b.steps (gather_one p y d b power).steps
one_begins p y d b power = by_digit (ℕ_discrete y d)
  where
    by_digit : Dec (y ≡ d) → Begins b.steps (gather_one p y d b power).steps
    by_digit (yes e) = rw (one_yes p y d b power e) (times_begins p b power)
    by_digit (no ne) = rw (one_no p y d b power ne) (begins_own b.steps)

gather_begin : (p k : ℕ) (power : ℕ → ℕ) (x d : ℕ) (b : Made) (i j : ℕ) → i ≤ j → Begins (gather p k power x d i b).steps (gather p k power x d j b).steps
gather_begin p k power x d b = begins_rise (λ i. (gather p k power x d i b).steps) (λ i. one_begins p (digit k x i) d (gather p k power x d i b) (power i))

-- within a column's reach, digits and powers have their places
module _ (col : Column) (i : ℕ) (r : Reach col) (less : i < col.digits) where
  reach : col.k * i + col.k ≤ col.k * col.digits
  reach = omega (arith, mul-le-mul_left col.k less, mul-suc col.k i)

  pub digit_reach : col.k * i < 32
  digit_reach = digit_place col.k i col.digits r.some less r.few

  pub power_place : col.first + col.k * i < 2 ^ 32
  power_place = omega (arith, reach, r.numbers)

-- the powers one after the other, i of J taken up
module _ (col : Column) (d : ℕ) (old : List ℕ) (m : Made) (cells : List ℕ) (n : Progress) (v i : ℕ) (e : Emitted old cells n v (gather_in col d i m))
    (y w : ℕ) (is_digit : y ≡ digit col.k col.x i) (is-power : w ≡ power_in col i) where
  next : gather_in col d (i + 1) m ≡ gather_one col.p y d (gather_in col d i m) w
  next = ap (λ (j : ℕ). gather_in col d j m) (add-one i) ∙ rw (is_digit, is-power)

  begins : Begins (gather_in col d i m).steps (gather_one col.p y d (gather_in col d i m) w).steps
  begins = one_begins col.p y d _ w

  pub powers_room : (J : ℕ) (n₀ : Progress) → StepsRoom col.p old n₀ (gather_in col d J m).steps → i < J
      → StepsRoom col.p cells n (gather_one col.p y d (made (steps_in cells n.steps) v) w).steps
  powers_room J n₀ room less =
      emits_room room (λ b. gather_one col.p y d b w) e begins
      (rw (← next) (gather_begin col.p col.k (power_in col) col.x d m (i + 1) J (omega arith)))

  pub powers_on : (cells' : List ℕ) (n' : Progress) (v' : ℕ) → Emitted cells cells' n' v' (gather_one col.p y d (made (steps_in cells n.steps) v) w)
      → Emitted old cells' n' v' (gather_in col d (i + 1) m)
  powers_on cells' n' v' t = rw next (emits_on (λ b. gather_one col.p y d b w) e begins t)

pub ruleset gathering = (emitted_own, powers_room, powers_on)

-- the products a and b after i rounds
module _ (col : Column) (before : List Step) where
  round_begins : (i : ℕ) → Begins (sweep_in col before i).steps (sweep_in col before (suc i)).steps
  round_begins i =
      let r = sweep_in col before i in
      let d = 2 ^ col.k - suc i in
      let b = gather_in col d col.digits (made r.steps r.b) in
      begins_on (gather_begin col.p col.k (power_in col) col.x d (made r.steps r.b) 0 col.digits (omega arith))
      (times_begins col.p (made b.steps r.a) b.value)

  pub sweep_begin : (i j : ℕ) → i ≤ j → Begins (sweep_in col before i).steps (sweep_in col before j).steps
  sweep_begin = begins_rise (λ i. (sweep_in col before i).steps) round_begins

-- a round: b takes up the powers of digit d, then a takes up b
module _ (col : Column) (before : List Step) (old cells : List ℕ) (n : Progress) (a b i : ℕ) (e : SweepEmitted old cells n a b (sweep_in col before i)) (d : ℕ)
    (is-d : d ≡ 2 ^ col.k - (i + 1)) where
  abbrev state : Sweep
  state = sweep_in col before i

  abbrev taking : Made → Made
  taking = gather_in col d col.digits

  entered : Emitted old cells n b (made state.steps state.b)
  entered = record { stored = e.stored; value = e.b_is }

  into_b : Begins state.steps (taking (made state.steps state.b)).steps
  into_b = gather_begin col.p col.k (power_in col) col.x d (made state.steps state.b) 0 col.digits (omega arith)

  abbrev after_b : Made
  after_b = taking (made state.steps state.b)

  into_a : Begins after_b.steps (times col.p (made after_b.steps state.a) after_b.value).steps
  into_a = times_begins col.p (made after_b.steps state.a) after_b.value

  abbrev after_a : Made
  after_a = times col.p (made after_b.steps state.a) after_b.value

  -- the state after a round with any digit
  abbrev with_digit : ℕ → Sweep
  with_digit y =
      let r = gather_in col y col.digits (made state.steps state.b) in
      let t = times col.p (made r.steps state.a) r.value in
      record { steps = t.steps; a = t.value; b = r.value }

  round : sweep_in col before (i + 1) ≡ with_digit d
  round =
      let same : 2 ^ col.k - suc i ≡ d = omega arith in
      ap (sweep_in col before) (add-one i) ∙ ap with_digit same

  module _ (R : ℕ) (n₀ : Progress) (room : StepsRoom col.p old n₀ (sweep_in col before R).steps) (less : i + 1 ≤ R) where
    rest : Begins after_a.steps (sweep_in col before R).steps
    rest = subst (λ (r : Sweep). Begins r.steps (sweep_in col before R).steps) round (sweep_begin col before (i + 1) R less)

    pub b_room : StepsRoom col.p cells n (gather_in col d col.digits (made (steps_in cells n.steps) b)).steps
    b_room = emits_room room taking entered into_b (begins_on into_a rest)

  module _ (cells' : List ℕ) (n' : Progress) (v' : ℕ) (t : Emitted cells cells' n' v' (gather_in col d col.digits (made (steps_in cells n.steps) b))) where
    taken : Emitted old cells' n' v' after_b
    taken = emits_on taking entered into_b t

    entered_a : Emitted old cells' n' a (made after_b.steps state.a)
    entered_a = record { stored = taken.stored; value = e.a_is }

    by_value : times col.p (made after_b.steps state.a) v' ≡ after_a
    by_value = ap (times col.p (made after_b.steps state.a)) taken.value

    pub a_room : (R : ℕ) (n₀ : Progress) → StepsRoom col.p old n₀ (sweep_in col before R).steps → i + 1 ≤ R
        → StepsRoom col.p cells' n' (times col.p (made (steps_in cells' n'.steps) a) v').steps
    a_room R n₀ room less =
        emits_room room (λ m. times col.p m v') entered_a (times_begins col.p _ v')
        (subst (λ (m : Made). Begins m.steps (sweep_in col before R).steps) (sym by_value) (rest R n₀ room less))

    pub a_on : (cells'' : List ℕ) (n'' : Progress) (v'' : ℕ) → Emitted cells' cells'' n'' v'' (times col.p (made (steps_in cells' n'.steps) a) v')
        → SweepEmitted old cells'' n'' v'' v' (sweep_in col before (i + 1))
    a_on cells'' n'' v'' u =
        let r = subst (λ (m : Made). Emitted old cells'' n'' v'' m) by_value (emits_on (λ m. times col.p m v') entered_a (times_begins col.p _ v') u) in
        rw round (record { stored = r.stored; a_is = r.value; b_is = taken.value })

pub sweep_start : (p : ℕ) (col : Column) (cells : List ℕ) (n : Progress) (whole : List Step) → StepsRoom p cells n whole
    → SweepEmitted cells cells n 0 0 (sweep_in col (steps_in cells n.steps) 0)
sweep_start p col cells n whole room = record { stored = stored_own cells n room.so_far; a_is = refl; b_is = refl }
