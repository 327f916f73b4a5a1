-- A product is a copy or one step more, and squarings are products in a row: each has room because the whole has it.
use mathlib.Core.Path.{◌≡◌, refl, sym, ap, ◌∙◌}
use mathlib.Core.List.{List, [], ◌∷◌, ◌++◌}
use Prim.Native.Nat.{ℕ, suc, ◌+◌, ◌^◌, ◌<◌}
use native.Mathlib.Numerals.{add-one}
use native.Mathlib.Omega.{arith}
use lib.ListN.{length, length-append}
use Rattle.products.specs.Product.{Made, made, ordered, times, squared}
use Rattle.products.specs.Inner.{steps_in, MoreRoom, StepsRoom, StepsStored, Emitted}
use Rattle.products.specs.declared.Progress.{Progress}
use Rattle.products.proofs.Product.{times_start, times_copy, times_new, times_begins, squared_begins}
use Rattle.products.proofs.Emitted.{length-steps_in, stored_own, emitted_own, emits_room, emits_on}

-- a product times a value: a copy of it, a copy of the product, and a step
module _ (p : ℕ) (cells : List ℕ) (r : Progress) (v y : ℕ) where
  abbrev so_far : Made
  so_far = made (steps_in cells r.steps) v

  pub emitted_start : StepsRoom p cells r (times p so_far y).steps → v ≡ 0 → Emitted cells cells r y (times p so_far y)
  emitted_start room e = rw (times_start p so_far y e) (record { stored = stored_own cells r room.so_far; value = refl })

  pub emitted_copy : StepsRoom p cells r (times p so_far y).steps → (v ≡ 0 → ⊥) → y ≡ 0 → Emitted cells cells r v (times p so_far y)
  emitted_copy room h e = rw (times_copy p so_far y (omega arith) e) (record { stored = stored_own cells r room.so_far; value = refl })

  pub emitted_new : (cells' : List ℕ) (r' : Progress) → StepsRoom p cells r (times p so_far y).steps → (v ≡ 0 → ⊥) → (y ≡ 0 → ⊥)
      → StepsStored cells cells' r' (steps_in cells r.steps ++ ordered v y ∷ []) → Emitted cells cells' r' (p + r.steps + 1) (times p so_far y)
  emitted_new cells' r' room h g s =
      rw (times_new p so_far y (omega arith) (omega arith))
      (record { stored = s; value = ap (λ (k : ℕ). p + k + 1) (sym (length-steps_in cells r room.so_far)) })

  -- that step has room, and its value a number
  one_more : StepsRoom p cells r (times p so_far y).steps → (v ≡ 0 → ⊥) → (y ≡ 0 → ⊥) → length (times p so_far y).steps ≡ r.steps + 1
  one_more room h g =
      ap (λ (m : Made). length m.steps) (times_new p so_far y (omega arith) (omega arith))
      ∙ length-append (steps_in cells r.steps) _
      ∙ omega (arith, length-steps_in cells r room.so_far)

  pub step_fits : StepsRoom p cells r (times p so_far y).steps → (v ≡ 0 → ⊥) → (y ≡ 0 → ⊥) → MoreRoom cells r 1
  step_fits room h g = record { so_far = room.so_far; enough = omega (arith, one_more room h g, room.cells_hold) }

  pub number_fits : StepsRoom p cells r (times p so_far y).steps → (v ≡ 0 → ⊥) → (y ≡ 0 → ⊥) → p + r.steps + 1 < 2 ^ 32
  number_fits room h g = omega (arith, one_more room h g, room.numbers_fit)

pub ruleset multiplying = (emitted_start, emitted_copy, emitted_new, step_fits, number_fits)

-- k squarings, i of them made
module _ (p k : ℕ) (old : List ℕ) (r₀ : Progress) (m : Made) (room : StepsRoom p old r₀ (squared p k m).steps) (cells : List ℕ) (r : Progress) (v i : ℕ)
    (e : Emitted old cells r v (squared p i m)) (less : i < k) where
  abbrev square : Made → Made
  square r = times p r r.value

  next : squared p (i + 1) m ≡ squared p (suc i) m
  next = ap (λ (j : ℕ). squared p j m) (add-one i)

  pub squared_room : StepsRoom p cells r (times p (made (steps_in cells r.steps) v) v).steps
  squared_room = emits_room room square e (times_begins p (squared p i m) _) (squared_begins p m (suc i) k (omega arith))

  pub squared_on : (cells' : List ℕ) (r' : Progress) (v' : ℕ) → Emitted cells cells' r' v' (times p (made (steps_in cells r.steps) v) v)
      → Emitted old cells' r' v' (squared p (i + 1) m)
  squared_on cells' r' v' t = rw next (emits_on square e (times_begins p (squared p i m) _) t)

pub ruleset squaring = (emitted_own, squared_room, squared_on)
