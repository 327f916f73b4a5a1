-- The units part the entries into rows: a row begins with its unit, which costs no step; its other entries have as many digits and cost a step each.
use mathlib.Core.Bool.{true, false}
use mathlib.Core.Path.{◌≡◌, refl, sym, ap, ◌∙◌}
use mathlib.Core.List.{List, [], ◌++◌, append-nil}
use Prim.Native.Nat.{ℕ, zero, suc, ◌+◌, ◌-◌, ◌*◌, ◌^◌, ◌≤◌, ◌<◌}
use native.Mathlib.Nat.{mul-zero, mul-le-mul_left, le_refl}
use native.Mathlib.Decide.{dec_le}
use native.Mathlib.Numerals.{add-one}
use native.Mathlib.Omega.{arith}
use lib.ListN.{length, length-append}
use lib.Pow.{pow_pos, pow_mono}
use Rattle.chain.specs.declared.Step.{Step}
use Rattle.chain.proofs.Rules.{eq_yes, eq_no}
use Rattle.digits.specs.Digits.{digit_count}
use Rattle.digits.proofs.Count.{count_low, low_count, count_full, count_few, weights_rise}
use Rattle.tables.specs.Table.{is_unit, table_next, table}
use Rattle.products.specs.Inner.{steps_in, SoFar, MoreRoom, StepsRoom, StepsStored}
use Rattle.products.specs.declared.Progress.{Progress}
use Rattle.products.proofs.Sound.{Begins, begins_length, begins_rise}
use Rattle.products.proofs.Emitted.{stored_own, stored_is, stored_on, stored_so_far}
use Rattle.tables.specs.Inner.{OneMore, Longer}
use Rattle.tables.proofs.Table.{next_zero, next_unit, table_count_lem}
use Rattle.tables.proofs.Tabling.{next_begins, next_front}

-- t is an entry with d digits and no unit, in a table of n inputs
pub record InRow (k n d t : ℕ) : Type 0 where
  pub some : 0 < t
  pub count : d ≡ digit_count k t
  pub other : is_unit k t ≡ false
  pub inside : t < 2 ^ (k * n)

-- the row of the entries with d + 1 digits: its first one is the unit u, and the next row's is the unit v
module _ (k d u v : ℕ) (some : 0 < k) (first : u ≡ 2 ^ (k * d)) (next : v ≡ 2 ^ (k * (d + 1))) where
  pub row_rises : u + 1 ≤ v
  row_rises = omega (arith, weights_rise k some d (d + 1) (omega arith))

  row_digits : (t : ℕ) → u ≤ t → t < v → digit_count k t ≡ d + 1
  row_digits t low high = by_count (dec_le (digit_count k t) d)
    where
      by_count : Dec (digit_count k t ≤ d) → digit_count k t ≡ d + 1
      by_count (yes few) = absurd (omega (arith, count_low k some t d few))
      by_count (no many) = omega (arith, low_count k some t (d + 1) (omega arith))

  -- the unit with as many digits
  top_unit : (t : ℕ) → u ≤ t → t < v → u ≡ 2 ^ (k * (digit_count k t - 1))
  top_unit t low high =
      let e : d ≡ digit_count k t - 1 = omega (arith, row_digits t low high) in
      first ∙ ap (λ (n : ℕ). 2 ^ (k * n)) e

  row_unit : is_unit k u ≡ true
  row_unit = eq_yes u _ (top_unit u (le_refl u) (omega (arith, row_rises)))

  -- the others, in a table of n inputs
  pub in_row : (n t : ℕ) → d < n → u + 1 ≤ t → t < v → InRow k n (d + 1) t
  in_row n t more low high =
      let le : d + 1 ≤ n = omega arith in
      record {
        some = omega arith;
        count = sym (row_digits t (omega arith) high);
        other = eq_no t _ (omega (arith, top_unit t (omega arith) high));
        inside = omega (arith, pow_mono (mul-le-mul_left k le));
      }

-- a number of digits is below the first number that has more
below_unit : (k d : ℕ) → 0 < k → d + 1 ≤ 2 ^ (k * d)
below_unit k d some = by_size (2 ^ (k * d)) refl (pow_pos (k * d))
  where
    by_size : (m : ℕ) → 2 ^ (k * d) ≡ m → 0 < m → d + 1 ≤ m
    by_size zero e h = absurd (omega arith)
    by_size (suc t) e h = omega (arith, count_full k some t d (sym e), count_few k t)

-- a step more stands in the slice too
pub more_so_far : {cells cells' : List ℕ} {s s' : Progress} {steps : List Step} → 2 * (s.steps + 1) ≤ length cells → OneMore cells cells' s s' steps
    → SoFar cells' s'
more_so_far h more = stored_so_far more.stored (omega (arith, more.next, more.stored.count))

-- the table in the making, after the steps of front
module _ (k : ℕ) (inputs : List ℕ) (at : ℕ) where
  abbrev After : List Step → ℕ → List Step
  After front t = front ++ table k inputs at t

  after_next : (front : List Step) (t : ℕ) → After front (t + 1) ≡ table_next k inputs at t (After front t)
  after_next front t = rw (add-one t) (sym (next_front k inputs at t front (table k inputs at t)))

  after_begins : (front : List Step) (t T : ℕ) → t ≤ T → Begins (After front t) (After front T)
  after_begins front =
      begins_rise (After front) (λ t. rw (← next_front k inputs at t front (table k inputs at t)) (next_begins k inputs at t (After front t)))

  table_on : (old cells cells' : List ℕ) (front : List Step) (s s' : Progress) (t : ℕ) → StepsStored old cells s (After front t)
      → StepsStored cells cells' s' (table_next k inputs at t (steps_in cells s.steps)) → StepsStored old cells' s' (After front (t + 1))
  table_on old cells cells' front s s' t st new =
      let u = rw (stored_is st) at new in
      rw (after_next front t) (stored_on st (next_begins k inputs at t (After front t)) u)

  pub longer_own : (cells : List ℕ) (s : Progress) (t : ℕ) → Longer k inputs at cells s t cells s t
  longer_own cells s t = record { stored = λ old front st. st }

  pub longer_next : (cells : List ℕ) (s : Progress) (t : ℕ) (cells' cells'' : List ℕ) (s' s'' : Progress) (t' : ℕ) → Longer k inputs at cells s t cells' s' t'
      → OneMore cells' cells'' s' s'' (table_next k inputs at t' (steps_in cells' s'.steps)) → Longer k inputs at cells s t cells'' s'' (t' + 1)
  longer_next cells s t cells' cells'' s' s'' t' before new =
      record { stored = λ old front st. table_on old cells' cells'' front s' s'' t' (before.stored old front st) new.stored }

  pub longer_end : (cells : List ℕ) (s : Progress) (t : ℕ) (cells' : List ℕ) (s' : Progress) (t' u end v : ℕ) → t ≡ u + 1 → t' ≤ end → end ≤ t' → end ≡ v
      → Longer k inputs at cells s t cells' s' t' → Longer k inputs at cells s (u + 1) cells' s' v
  longer_end cells s t cells' s' t' u end v first h g e more =
      let last : t' ≡ v = omega arith in
      rw (← first, ← last) more

  -- the steps of a row: none for its unit
  module _ (d : ℕ) (some : 0 < k) (old : List ℕ) (front : List Step) where
    unit_next : After front (2 ^ (k * d) + 1) ≡ After front (2 ^ (k * d))
    unit_next = by_unit (2 ^ (k * d)) (row_unit k d (2 ^ (k * d)) _ some refl refl) refl
      where
        by_unit : (t : ℕ) → is_unit k t ≡ true → t ≡ 2 ^ (k * d) → After front (t + 1) ≡ After front t
        by_unit zero b e = absurd (omega (arith, pow_pos (k * d)))
        by_unit (suc t) b e =
            rw add-one (ap (λ (steps : List Step). front ++ steps) (next_unit k some inputs at t (table k inputs at (suc t)) b))

    pub row_stored : (cells cells' : List ℕ) (s s' : Progress) → StepsStored old cells s (After front (2 ^ (k * d)))
        → Longer k inputs at cells s (2 ^ (k * d) + 1) cells' s' (2 ^ (k * (d + 1))) → StepsStored old cells' s' (After front (2 ^ (k * (d + 1))))
    row_stored cells cells' s s' st more = more.stored old front (rw unit_next st)

    -- and one for each other entry
    row_steps : length (After front (2 ^ (k * (d + 1)))) ≡ length (After front (2 ^ (k * d))) + (2 ^ (k * (d + 1)) - 2 ^ (k * d) - 1)
    row_steps =
        omega (
          arith,
          length-append front (table k inputs at (2 ^ (k * (d + 1)))),
          length-append front (table k inputs at (2 ^ (k * d))),
          table_count_lem k some inputs at (d + 1),
          table_count_lem k some inputs at d,
          below_unit k d some,
          below_unit k (d + 1) some,
          weights_rise k some d (d + 1) (omega arith),
        )

    pub row_room : (p : ℕ) (r : Progress) (T : ℕ) (cells : List ℕ) (s : Progress) → StepsRoom p old r (After front (2 ^ (k * T))) → d < T
        → length cells ≡ length old → StepsStored old cells s (After front (2 ^ (k * d))) → MoreRoom cells s (2 ^ (k * (d + 1)) - 2 ^ (k * d) - 1)
    row_room p r T cells s room inside same st =
        let le : d + 1 ≤ T = omega arith in
        let wide : 2 ^ (k * (d + 1)) ≤ 2 ^ (k * T) = pow_mono (mul-le-mul_left k le) in
        let longer = begins_length (after_begins front (2 ^ (k * (d + 1))) (2 ^ (k * T)) wide) in
        record {
          so_far = stored_so_far st (omega (arith, row_steps, longer, room.cells_hold));
          enough = omega (arith, st.count, row_steps, longer, room.cells_hold);
        }

  -- the whole table
  pub table_start : (p : ℕ) (cells : List ℕ) (r : Progress) (steps : List Step) → 0 < k → StepsRoom p cells r steps
      → StepsStored cells cells r (After (steps_in cells r.steps) (2 ^ (k * 0)))
  table_start p cells r steps some room =
      rw (mul-zero, next_zero k some inputs at [], append-nil (steps_in cells r.steps)) (stored_own cells r room.so_far)

pub ruleset rowing = (longer_own, longer_next, longer_end)

pub ruleset tabling = (row_stored, row_room, table_start)
