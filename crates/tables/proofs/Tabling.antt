-- Each entry appends its step or none, whatever stands before, and every number it computes with fits 32 bits.
use mathlib.Core.Bool.{Bool, true, false, cond}
use mathlib.Core.Path.{◌≡◌, refl, sym, ◌∙◌}
use mathlib.Core.List.{List, [], ◌∷◌, ◌++◌, append_assoc}
use Prim.Native.Nat.{ℕ, zero, suc, ◌+◌, ◌-◌, ◌*◌, ◌^◌, ◌≤◌, ◌<◌}
use native.Mathlib.Omega.{arith}
use lib.ListN.{length, get_or, length-append}
use lib.Pow.{pow_pos}
use Rattle.chain.specs.Tests.{◌=?◌, ◌or◌}
use Rattle.chain.specs.declared.Step.{Step}
use Rattle.chain.proofs.Rules.{eq_yes, eq_no, or_none}
use Rattle.digits.specs.Digits.{digit_count}
use Rattle.digits.proofs.Count.{low_count, count_high, count_some, count_few}
use Rattle.digits.proofs.Words.{digit_place}
use Rattle.products.specs.Product.{ordered}
use Rattle.tables.specs.Table.{is_unit, entry, lowest, table_next}
use Rattle.products.specs.Inner.{steps_in, SoFar, StepsStored}
use Rattle.products.specs.declared.Progress.{Progress}
use Rattle.tables.specs.Inner.{OneMore}
use Rattle.products.proofs.Sound.{Begins, begins_own, begins_more}
use Rattle.products.proofs.Emitted.{length-steps_in}
use Rattle.tables.proofs.Rest.{lowest_below, rest_high, rest_count}

count_nonzero : (k t : ℕ) → 0 < t → 0 < digit_count k t
count_nonzero k zero h = absurd (omega arith)
count_nonzero k (suc t) h = count_some k t

-- d is how many digits t has
module _ (k t d : ℕ) (is : d ≡ digit_count k t) where
  pub digits_some : 0 < t → 1 ≤ d
  digits_some h = omega (arith, count_nonzero k t h)

  pub top_fits : 0 < k → 0 < t → t < 2 ^ 32 → k * (d - 1) < 32
  top_fits some h low = digit_place k t (d - 1) some low (omega (arith, count_nonzero k t h))

  -- the value number of entry t, where w is the unit with as many digits
  module _ (inputs : List ℕ) (at : ℕ) where
    pub input_place : 0 < k → 0 < t → t < 2 ^ (k * length inputs) → d - 1 < length inputs
    input_place some h low = omega (arith, count_nonzero k t h, low_count k some t (length inputs) low)

    pub digits_within : d ≤ at + t
    digits_within = omega (arith, count_few k t)

    pub number_some : 0 < at → 1 ≤ at + t - d
    number_some h = omega (arith, count_few k t)

    pub entry_input : (w : ℕ) → 0 < t → w ≡ 2 ^ (k * (d - 1)) → t ≡ w → get_or inputs (d - 1) 0 ≡ entry k inputs at t
    unfolding entry
    entry_input w h e u = rw (eq_no t 0 (omega arith), eq_yes t (2 ^ (k * (digit_count k t - 1))) (u ∙ rw is at e), is)

    pub entry_made : (w : ℕ) → 0 < t → w ≡ 2 ^ (k * (d - 1)) → (t ≡ w → ⊥) → at + t - d - 1 ≡ entry k inputs at t
    unfolding entry
    entry_made w h e u = rw (eq_no t 0 (omega arith), eq_no t (2 ^ (k * (digit_count k t - 1))) (λ v. u (v ∙ sym (rw is at e))), is)

pub entry_none : (k : ℕ) (inputs : List ℕ) (at t : ℕ) → t ≡ 0 → 0 ≡ entry k inputs at t
unfolding entry
entry_none k inputs at t e = rw (eq_yes t 0 e)

pub ruleset entering = (digits_some, top_fits, input_place, digits_within, number_some, entry_none, entry_input, entry_made)

-- l is the place of t's lowest digit that is not 0, and w is its weight
module _ (k t l : ℕ) (is : l ≡ lowest k t) (some : 0 < k) (h : 0 < t) where
  pub lowest_fits : t < 2 ^ 32 → k * l < 32
  lowest_fits low = digit_place k t l some low (omega (arith, lowest_below k t some h))

  pub lowest_input : (inputs : List ℕ) → t < 2 ^ (k * length inputs) → l < length inputs
  lowest_input inputs low = omega (arith, lowest_below k t some h, low_count k some t (length inputs) low)

  module _ (w : ℕ) (weight : w ≡ 2 ^ (k * l)) where
    pub lowest_part : w ≤ t
    lowest_part = omega (arith, count_high k some t l (omega (arith, lowest_below k t some h)))

    -- what is left without it, of an entry that is no unit
    pub rest_digits : (d : ℕ) → is_unit k t ≡ false → d ≡ digit_count k t → d ≡ digit_count k (t - w)
    rest_digits d u e = rw (weight, is) (e ∙ sym (rest_count k t some h u))

    pub rest_some : is_unit k t ≡ false → 0 < t - w
    rest_some u = rw (weight, is) (omega (arith, rest_high k t some h u, pow_pos (k * (digit_count k t - 1))))

-- the steps of one entry more
module _ (k : ℕ) (inputs : List ℕ) (at t : ℕ) where
  -- the step of an entry that is neither zero nor a unit
  abbrev pub next_step : Step
  next_step = ordered (entry k inputs at (t - 2 ^ (k * lowest k t))) (get_or inputs (lowest k t) 0)

  pub new_entry : (before : List Step) → 0 < t → is_unit k t ≡ false → table_next k inputs at t before ≡ before ++ next_step ∷ []
  unfolding table_next
  new_entry before h u = rw (or_none (t =? 0) (is_unit k t) (eq_no t 0 (omega arith)) u)

  pub entry_stored : (cells cells' : List ℕ) (s s' : Progress) (l w rest : ℕ) → 0 < t → is_unit k t ≡ false → l ≡ lowest k t → w ≡ 2 ^ (k * l)
      → rest ≡ entry k inputs at (t - w) → SoFar cells s
      → StepsStored cells cells' s' (steps_in cells s.steps ++ ordered rest (get_or inputs l 0) ∷ [])
      → OneMore cells cells' s s' (table_next k inputs at t (steps_in cells s.steps))
  entry_stored cells cells' s s' l w rest h u is weight r so_far st =
      record {
        stored = rw (new_entry (steps_in cells s.steps) h u, ← is, ← weight, ← r) st;
        next = st.count ∙ length-append (steps_in cells s.steps) _ ∙ omega (arith, length-steps_in cells s so_far);
      }

  -- whatever stands before them
  pub next_begins : (before : List Step) → Begins before (table_next k inputs at t before)
  unfolding table_next
  next_begins before = by_test (t =? 0 or is_unit k t)
    where
      by_test : (b : Bool) → Begins before (cond b before (before ++ next_step ∷ []))
      by_test true = begins_own before
      by_test false = begins_more before (next_step ∷ [])

  pub next_front : (front before : List Step) → table_next k inputs at t (front ++ before) ≡ front ++ table_next k inputs at t before
  unfolding table_next
  next_front front before = by_test (t =? 0 or is_unit k t)
    where
      by_test : (b : Bool) → cond b (front ++ before) (front ++ before ++ next_step ∷ []) ≡ front ++ cond b before (before ++ next_step ∷ [])
      by_test true = refl
      by_test false = append_assoc front before (next_step ∷ [])

pub ruleset extending = (lowest_fits, lowest_part, lowest_input, rest_digits, rest_some, entry_stored)
