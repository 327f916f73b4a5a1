-- A product is made factor by factor: what is made so far, times the values that are left, is the whole. It has at most a step for each factor, so its
-- steps end before the places and the values, and these are read as they stood at first.
use mathlib.Core.Path.{◌≡◌, refl, sym, ap, ◌∙◌}
use mathlib.Core.List.{List, [], ◌∷◌}
use Prim.Native.Nat.{ℕ, suc, ◌+◌, ◌-◌, ◌*◌, ◌≤◌, ◌<◌}
use native.Mathlib.Numerals.{add-one}
use native.Mathlib.Omega.{arith}
use lib.ListN.{length, get_or, drop}
use lib.Seq.{slice, slice-cons, length-slice, get_or-drop}
use Rattle.chain.specs.Chain.{flat}
use Rattle.chain.specs.declared.Step.{Step}
use Rattle.chain.proofs.Pairs.{length-flat}
use Rattle.chain.proofs.Written.{past_over}
use Rattle.chain.proofs.Picked.{length-pick}
use Rattle.products.specs.Product.{Made, made, times}
use Rattle.products.specs.Inner.{steps_in, StepsRoom, StepsStored, Emitted}
use Rattle.products.specs.declared.Progress.{Progress}
use Rattle.products.proofs.Sound.{Begins, begins_own, begins_on, begins_length}
use Rattle.products.proofs.Product.{times_begins}
use Rattle.products.proofs.Emitted.{length-steps_in, stored-length, emitted_own, emits_room, emits_on}
use Rattle.clumps.specs.Levels.{product}
use Rattle.clumps.proofs.Bound.{product_low}
use Rattle.row_products.specs.Inner.{values_at, ProductAsked}

-- behind the steps nothing changed
pub stored_behind : {old cells : List ℕ} {r : Progress} {steps : List Step} → StepsStored old cells r steps → (c : ℕ) → 2 * length steps ≤ c
    → get_or cells c 0 ≡ get_or old c 0
stored_behind {old} {cells} {r} {steps} s c h =
    let past : drop c cells ≡ drop c old = ap (drop c) s.cells_are ∙ past_over c (flat steps) old (omega (arith, length-flat steps)) in
    sym (first cells) ∙ ap (λ (l : List ℕ). get_or l 0 0) past ∙ first old
  where
    first : (l : List ℕ) → get_or (drop c l) 0 0 ≡ get_or l c 0
    first l = let e : c + 0 ≡ c = omega arith in get_or-drop c l 0 0 ∙ ap (λ (k : ℕ). get_or l k 0) e

pub product_begins : (p : ℕ) (m : Made) (l : List ℕ) → Begins m.steps (product p m l).steps
product_begins p m [] = begins_own m.steps
product_begins p m (v ∷ l) = begins_on (times_begins p m v) (product_begins p (times p m v) l)

-- the state of the loop: a product is made, which times the values that are left is the whole
pub record Multiplied (p : ℕ) (whole : Made) (old cells : List ℕ) (r : Progress) (v : ℕ) (left : List ℕ) : Type 0 where
  pub so_far : Made
  pub emitted : Emitted old cells r v so_far
  pub rest : product p so_far left ≡ whole

module _ (p : ℕ) (old : List ℕ) (r₀ : Progress) (v₀ values from to : ℕ) (asked : ProductAsked p old r₀ values from to) where
  -- the values of the cells from one on
  abbrev left : ℕ → List ℕ
  left i = values_at old values (slice i to old)

  abbrev whole : Made
  whole = product p (made (steps_in old r₀.steps) v₀) (left from)

  whole_few : length whole.steps ≤ r₀.steps + (to - from)
  whole_few =
      omega (
        arith,
        product_low p (made (steps_in old r₀.steps) v₀) (left from),
        length-steps_in old r₀ asked.so_far,
        length-pick (drop values old) (slice from to old),
        length-slice from to old asked.inside,
      )

  room : StepsRoom p old r₀ whole.steps
  room =
      record {
        so_far = asked.so_far;
        cells_hold = omega (arith, whole_few, asked.before_places, asked.rises, asked.inside);
        numbers_fit = omega (arith, whole_few, asked.numbers_fit);
      }

  pub multiplied_none : Multiplied p whole old old r₀ v₀ (left from)
  multiplied_none = record { so_far = made (steps_in old r₀.steps) v₀; emitted = emitted_own p old r₀ v₀ whole.steps room; rest = refl }

  module _ (i : ℕ) (above : from ≤ i) (cells : List ℕ) (r : Progress) (v : ℕ) (state : Multiplied p whole old cells r v (left i)) where
    so_far_few : length state.so_far.steps ≤ r₀.steps + (to - from)
    so_far_few = omega (arith, whole_few, begins_length (product_begins p state.so_far (left i)), ap (λ (m : Made). length m.steps) state.rest)

    pub multiplied_long : length cells ≡ length old
    multiplied_long = stored-length state.emitted.stored (omega (arith, so_far_few, asked.before_places, asked.rises, asked.inside))

    module _ (less : i < to) where
      same : (c : ℕ) → 2 * (r₀.steps + (to - from)) ≤ c → get_or cells c 0 ≡ get_or old c 0
      same c h = stored_behind state.emitted.stored c (omega (arith, so_far_few))

      place_same : get_or cells i 0 ≡ get_or old i 0
      place_same = same i (omega (arith, asked.before_places))

      pub multiplied_there : values + get_or cells i 0 < length cells
      multiplied_there = omega (arith, place_same, asked.there i above less, multiplied_long)

      -- the factor that is read, and those after it
      abbrev factor : ℕ
      factor = get_or cells (values + get_or cells i 0) 0

      factor_is : factor ≡ get_or (drop values old) (get_or old i 0) 0
      factor_is =
          same (values + get_or cells i 0) (omega (arith, asked.before_values))
          ∙ ap (λ (k : ℕ). get_or old (values + k) 0) place_same
          ∙ sym (get_or-drop values old (get_or old i 0) 0)

      next : left i ≡ factor ∷ left (i + 1)
      next =
          ap (values_at old values) (slice-cons i to old 0 less asked.inside)
          ∙ ap (λ (x : ℕ). x ∷ left (suc i)) (sym factor_is)
          ∙ ap (λ (k : ℕ). factor ∷ left k) (sym (add-one i))

      on_rest : product p (times p state.so_far factor) (left (i + 1)) ≡ whole
      on_rest = sym (ap (product p state.so_far) next) ∙ state.rest

      on_begins : Begins (times p state.so_far factor).steps whole.steps
      on_begins = rw on_rest at (product_begins p (times p state.so_far factor) (left (i + 1)))

      pub multiplied_room : StepsRoom p cells r (times p (made (steps_in cells r.steps) v) factor).steps
      multiplied_room = emits_room room (λ m. times p m factor) state.emitted (times_begins p state.so_far factor) on_begins

      pub multiplied_on : (cells' : List ℕ) (r' : Progress) (v' : ℕ) → Emitted cells cells' r' v' (times p (made (steps_in cells r.steps) v) factor)
          → Multiplied p whole old cells' r' v' (left (i + 1))
      multiplied_on cells' r' v' e =
          record {
            so_far = times p state.so_far factor;
            emitted = emits_on (λ m. times p m factor) state.emitted (times_begins p state.so_far factor) e;
            rest = on_rest;
          }
