-- Payslips are emitted one after the other, by any method whose payslips only append steps: a loop over them keeps the steps and the outputs of the
-- payslips so far, and after whatever the chain begins with they make it whole.
use mathlib.Core.Path.{◌≡◌, refl, ap, ◌∙◌}
use mathlib.Core.List.{List, [], ◌++◌, append-nil}
use Prim.Native.Nat.{ℕ, zero, suc, ◌+◌, ◌≤◌, ◌<◌, zero-le}
use native.Mathlib.Numerals.{add-one}
use native.Mathlib.Omega.{arith}
use lib.ListN.{length, set, take, drop, length-append, length-set, drop_of_length-le}
use lib.Seq.{length-take-le}
use Rattle.chain.specs.Chain.{most_columns}
use Rattle.chain.specs.Written.{over}
use Rattle.chain.specs.declared.Step.{Step}
use Rattle.chain.proofs.Written.{over_next}
use Rattle.products.specs.Product.{Made, payslips}
use Rattle.products.specs.Inner.{steps_in, begun, StepsRoom, StepsStored, Emitted}
use Rattle.products.specs.declared.Progress.{Progress}
use Rattle.products.proofs.Sound.{Begins, begins_own, begins_rise, begins_length}
use Rattle.products.proofs.Emitted.{stored_own, so_far_none, stored_is, stored-length, stored_on, stored_room}
use Rattle.methods.specs.Inner.{ChainRoom, ChainStored, PayslipsRoom}

pub over_none : (old : List ℕ) → old ≡ over [] old
unfolding over
over_none old = refl

-- a list over the front of a slice, which the rest stands after
front_over : (n : ℕ) (old l cells : List ℕ) → n ≤ length old → length l ≡ n → cells ≡ over l (take n old) → cells ++ drop n old ≡ over l old
unfolding over
front_over n old l cells room long is =
    let none : drop (length l) (take n old) ≡ [] = drop_of_length-le (take n old) (omega (arith, long, length-take-le n old room)) in
    let front : cells ≡ l = is ∙ rw none (append-nil l) in
    rw (long, front)

-- the slices before the first payslip, and after the last
paid_none : (p : ℕ) (cells : List ℕ) (r : Progress) (steps : List Step) → StepsRoom p cells r steps → StepsStored cells cells r (steps_in cells r.steps)
paid_none p cells r steps room = stored_own cells r room.so_far

module _ (slip : ℕ → List Step → Made) (start : List Step) (i q : ℕ) (h : i ≤ q) (g : q ≤ i) where
  paid_steps : (old cells : List ℕ) (s : Progress) → StepsStored old cells s (payslips slip start i).steps
      → StepsStored old cells s (payslips slip start q).steps
  paid_steps old cells s st =
      let last : q ≡ i = omega arith in
      rw last st

  paid_outputs : (old outputs : List ℕ) → outputs ≡ over (payslips slip start i).outputs old → outputs ≡ over (payslips slip start q).outputs old
  paid_outputs old outputs e =
      let last : q ≡ i = omega arith in
      rw last e

paid_length : (slip : ℕ → List Step → Made) (start : List Step) (i : ℕ) → length (payslips slip start i).outputs ≡ i
paid_length slip start zero = refl
paid_length slip start (suc i) = length-append (payslips slip start i).outputs _ ∙ omega (arith, paid_length slip start i)

module _ (slip : ℕ → List Step → Made) (start : List Step) (each : (i : ℕ) (before : List Step) → Begins before (slip i before).steps) where
  pub paid_begins : (i q : ℕ) → i ≤ q → Begins (payslips slip start i).steps (payslips slip start q).steps
  paid_begins = begins_rise (λ i. (payslips slip start i).steps) (λ i. each i (payslips slip start i).steps)

  -- payslip i after those before it
  module _ (old cells : List ℕ) (s : Progress) (i : ℕ) (st : StepsStored old cells s (payslips slip start i).steps) where
    pay_room : (p : ℕ) (r : Progress) (q : ℕ) → StepsRoom p old r (payslips slip start q).steps → i < q
        → StepsRoom p cells s (slip i (steps_in cells s.steps)).steps
    pay_room p r q room h =
        rw (stored_is st) (stored_room room st (each i (payslips slip start i).steps) (paid_begins (suc i) q h))

    pay_steps : (cells' : List ℕ) (s' : Progress) (v : ℕ) → Emitted cells cells' s' v (slip i (steps_in cells s.steps))
        → StepsStored old cells' s' (payslips slip start (i + 1)).steps
    pay_steps cells' s' v e =
        let t = rw (stored_is st) at e.stored in
        rw (add-one i) (stored_on st (each i (payslips slip start i).steps) t)

    pay_output : (cells' : List ℕ) (s' : Progress) (v : ℕ) → Emitted cells cells' s' v (slip i (steps_in cells s.steps))
        → (old' outputs : List ℕ) → i < length old'
        → outputs ≡ over (payslips slip start i).outputs old' → set outputs i v ≡ over (payslips slip start (i + 1)).outputs old'
    pay_output cells' s' v e old' outputs h is =
        let t : v ≡ (slip i (payslips slip start i).steps).value = e.value ∙ ap (λ (l : List Step). (slip i l).value) (stored_is st) in
        rw (add-one i, is, t) (over_next (payslips slip start i).outputs old' _ i (paid_length slip start i) h)

-- The state of a loop over q payslips after the first i: the slices, which were steps₀ and outputs₀, hold their s steps after those of start, and
-- their outputs.
pub record Paying (q : ℕ) (slip : ℕ → List Step → Made) (start : List Step) (steps₀ outputs₀ : List ℕ) (i : ℕ) (steps outputs : List ℕ)
    (s : Progress) : Type 0 where
  pub so_far : i ≤ q
  pub steps_long : length steps ≡ length steps₀
  pub outputs_long : length outputs ≡ length outputs₀
  pub outputs_fit : q ≤ length outputs
  pub stored : StepsStored steps₀ steps s (payslips slip start i).steps
  pub outputs_are : outputs ≡ over (payslips slip start i).outputs outputs₀

pub paying_start : (p q : ℕ) (slip : ℕ → List Step → Made) (steps outputs : List ℕ) (r : Progress)
    → PayslipsRoom p q steps r (payslips slip (steps_in steps r.steps) q).steps outputs
    → Paying q slip (steps_in steps r.steps) steps outputs 0 steps outputs r
paying_start p q slip steps outputs r room =
    record {
      so_far = zero-le;
      steps_long = refl;
      outputs_long = refl;
      outputs_fit = room.outputs_fit;
      stored = paid_none p steps r _ room.steps_room;
      outputs_are = over_none outputs;
    }

pub paying_end : {q : ℕ} {slip : ℕ → List Step → Made} {start : List Step} {steps₀ outputs₀ : List ℕ} {i : ℕ} {steps outputs : List ℕ} {s : Progress}
    → Paying q slip start steps₀ outputs₀ i steps outputs s → q ≤ i → ChainStored steps₀ outputs₀ steps outputs s (payslips slip start q)
paying_end {q} {slip} {start} {steps₀} {outputs₀} {i} state done =
    record {
      stored = paid_steps slip start i q state.so_far done _ _ _ state.stored;
      outputs_are = paid_outputs slip start i q state.so_far done _ _ state.outputs_are;
    }

-- The same over the front of the outputs, which the rest stands after.
module _ {q : ℕ} {outputs₀ : List ℕ} where
  pub front_room : {p : ℕ} {cells : List ℕ} {r : Progress} {steps : List Step} → PayslipsRoom p q cells r steps outputs₀
      → PayslipsRoom p q cells r steps (take q outputs₀)
  front_room room =
      record { outputs_fit = omega (arith, length-take-le q outputs₀ room.outputs_fit); steps_room = room.steps_room }

  pub front_end : {slip : ℕ → List Step → Made} {start : List Step} {steps₀ : List ℕ} {i : ℕ} {steps outputs : List ℕ} {s : Progress}
      → q ≤ length outputs₀ → Paying q slip start steps₀ (take q outputs₀) i steps outputs s → q ≤ i
      → ChainStored steps₀ outputs₀ steps (outputs ++ drop q outputs₀) s (payslips slip start q)
  front_end {slip} {start} fits state done =
      let whole = paying_end state done in
      record { stored = whole.stored; outputs_are = front_over q outputs₀ _ _ fits (paid_length slip start q) whole.outputs_are }

module _ (slip : ℕ → List Step → Made) (each : (i : ℕ) (before : List Step) → Begins before (slip i before).steps) where
  -- a turn: there is room for payslip i, and its steps and output are stored
  module _ {q : ℕ} {start : List Step} {steps₀ outputs₀ : List ℕ} {i : ℕ} {steps outputs : List ℕ} {s : Progress}
      (state : Paying q slip start steps₀ outputs₀ i steps outputs s) {p : ℕ} {r : Progress}
      (room : PayslipsRoom p q steps₀ r (payslips slip start q).steps outputs₀) (less : i < q) where
    pub paying_room : StepsRoom p steps s (slip i (steps_in steps s.steps)).steps
    paying_room = pay_room slip start each steps₀ steps s i state.stored p r q room.steps_room less

    pub paying_on : {steps' : List ℕ} {s' : Progress} {v : ℕ} → Emitted steps steps' s' v (slip i (steps_in steps s.steps))
        → Paying q slip start steps₀ outputs₀ (i + 1) steps' (set outputs i v) s'
    paying_on {steps'} {s'} {v} e =
        record {
          so_far = omega arith;
          steps_long = stored-length e.stored paying_room.cells_hold ∙ state.steps_long;
          outputs_long = length-set outputs i v ∙ state.outputs_long;
          outputs_fit = rw (length-set outputs i v) state.outputs_fit;
          stored = pay_steps slip start each steps₀ steps s i state.stored steps' s' v e;
          outputs_are =
              pay_output slip start each steps₀ steps s i state.stored steps' s' v e outputs₀ outputs
              (omega (arith, state.outputs_long, state.outputs_fit)) state.outputs_are;
        }

  -- A chain of some steps that it begins with, and its payslips.
  module _ (start : List Step) (q : ℕ) {p count : ℕ} {old outputs₀ : List ℕ} (columns : p ≤ most_columns) (fits : ChainRoom q count old outputs₀)
      (counted : length (payslips slip start q).steps ≡ count) where
    whole : StepsRoom p old begun (payslips slip start q).steps
    whole = record { so_far = so_far_none old; cells_hold = omega (arith, fits.lent.steps_fit); numbers_fit = omega (arith, fits.short) }

    -- there is room for the beginning, and after it for the payslips
    pub begin_room : StepsRoom p old begun start
    begin_room =
        let w = whole in
        let longer = begins_length (paid_begins slip start each 0 q zero-le) in
        record { so_far = so_far_none old; cells_hold = omega (arith, w.cells_hold); numbers_fit = omega (arith, w.numbers_fit) }

    pub payslips_room : {cells : List ℕ} {r : Progress} → StepsStored old cells r start
        → PayslipsRoom p q cells r (payslips slip (steps_in cells r.steps) q).steps outputs₀
    payslips_room st =
        record {
          outputs_fit = fits.lent.outputs_fit;
          steps_room = rw (stored_is st) (stored_room whole st (paid_begins slip start each 0 q zero-le) (begins_own _));
        }

  -- the payslips over the beginning are the chain
  pub chain_stored : (start : List Step) (q : ℕ) {old cells : List ℕ} {s : Progress} → StepsStored old cells s start
      → {outputs₀ cells' outputs' : List ℕ} {s' : Progress} → ChainStored cells outputs₀ cells' outputs' s' (payslips slip (steps_in cells s.steps) q)
      → ChainStored old outputs₀ cells' outputs' s' (payslips slip start q)
  chain_stored start q {old} {cells} {s} st {outputs₀} r =
      let same = rw (stored_is st) at r.stored in
      record {
        stored = stored_on st (paid_begins slip start each 0 q zero-le) same;
        outputs_are = r.outputs_are ∙ ap (λ (l : List Step). over (payslips slip l q).outputs outputs₀) (stored_is st);
      }
