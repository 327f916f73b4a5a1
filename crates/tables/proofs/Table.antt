-- A number has a digit more than the one before exactly if it is a unit, so among 1 to t there are as many units as t has digits: that numbers the entries.
use mathlib.Core.Bool.{Bool, true, false}
use mathlib.Core.Path.{◌≡◌, refl, sym, ap, ◌∙◌}
use mathlib.Core.List.{List, [], ◌∷◌, ◌++◌}
use Prim.Native.Nat.{ℕ, zero, suc, ◌+◌, ◌-◌, ◌*◌, ◌^◌, ◌≤◌, ◌<◌, zero-le}
use native.Mathlib.Nat.{le_refl}
use native.Mathlib.Decide.{dec_lt, ℕ_discrete}
use native.Mathlib.Omega.{arith}
use lib.ListN.{length, get_or, length-append}
use lib.Pow.{pow_pos}
use Rattle.chain.specs.Tests.{◌=?◌}
use Rattle.chain.specs.declared.Step.{Step}
use Rattle.chain.proofs.Rules.{eq_yes, eq_no, is_eq, not_eq, or_left, or_right, or_none}
use Rattle.digits.specs.Digits.{digit_count, digit}
use Rattle.digits.specs.Range.{sign}
use Rattle.digits.proofs.Range.{sign_some}
use Rattle.digits.proofs.Count.{count_own, low_count, count_mono, count_full, count_zero, count_some, weights_rise, top_digit}
use Rattle.products.specs.Product.{ordered}
use Rattle.tables.specs.Table.{is_unit, entry, lowest_from, lowest, table_next, table}

-- the lowest digit that is not 0
pub record Lowest (k t : ℕ) : Type 0 where
  pub below : lowest k t < digit_count k t
  pub nonzero : 0 < digit k t (lowest k t)

found : (f k t j d : ℕ) → j + f ≡ suc d → 0 < digit k t d → j ≤ d → (lowest_from f k t j ≤ d) × (0 < digit k t (lowest_from f k t j))
found zero k t j d e h g = absurd (omega arith)
found (suc f) k t j d e h g = by_digit (found f k t (suc j) d (omega arith) h) (digit k t j =? 0) refl
  where
    by_digit : (suc j ≤ d → (lowest_from f k t (suc j) ≤ d) × (0 < digit k t (lowest_from f k t (suc j)))) → (b : Bool) → (digit k t j =? 0) ≡ b
        → (lowest_from (suc f) k t j ≤ d) × (0 < digit k t (lowest_from (suc f) k t j))
    by_digit ih false u =
        let nonzero : digit k t j ≡ 0 → ⊥ = not_eq _ _ u in
        rw (u, lowest_from) (g, omega arith)
    by_digit ih true u = rw (u, lowest_from) (ih (by_place (ℕ_discrete j d)))
      where
        by_place : Dec (j ≡ d) → suc j ≤ d
        by_place (yes same) = absurd (omega (arith, ap (digit k t) same, is_eq (digit k t j) 0 u))
        by_place (no other) = omega arith

pub lowest_digit : (k t : ℕ) → 0 < k → Lowest k (suc t)
lowest_digit k t some =
    let top : digit_count k (suc t) ≡ suc (digit_count k (suc t) - 1) = omega (arith, count_some k t) in
    let r = found (digit_count k (suc t)) k (suc t) 0 (digit_count k (suc t) - 1) (omega arith) (top_digit k some (suc t) _ top) zero-le in
    record { below = omega (arith, r.0, top); nonzero = r.1 }

module _ (k : ℕ) (some : 0 < k) where
  count_next : (t : ℕ) → digit_count k (suc t) ≤ suc (digit_count k t)
  count_next t =
      let d = digit_count k t in
      low_count k some (suc t) (suc d) (omega (arith, count_own k some t, weights_rise k some d (suc d) (le_refl (suc d))))

  -- a number has a digit more than the one before exactly if it is a unit
  pub count_unit : (t : ℕ) → is_unit k (suc t) ≡ true → digit_count k (suc t) ≡ suc (digit_count k t)
  count_unit t u =
      let is : suc t ≡ 2 ^ (k * (digit_count k (suc t) - 1)) = is_eq _ _ u in
      omega (arith, low_count k some t (digit_count k (suc t) - 1) (omega arith), count_some k t, count_next t)

  pub count_same : (t : ℕ) → is_unit k (suc t) ≡ false → digit_count k (suc t) ≡ digit_count k t
  count_same t u = by_size (dec_lt (suc t) (2 ^ (k * digit_count k t)))
    where
      by_size : Dec (suc t < 2 ^ (k * digit_count k t)) → digit_count k (suc t) ≡ digit_count k t
      by_size (yes lt) = omega (arith, low_count k some (suc t) (digit_count k t) lt, count_mono k some t (suc t) (omega arith))
      by_size (no ge) = by_count (dec_lt (digit_count k t) (digit_count k (suc t)))
        where
          is : suc t ≡ 2 ^ (k * digit_count k t)
          is = omega (arith, count_own k some t)

          by_count : Dec (digit_count k t < digit_count k (suc t)) → digit_count k (suc t) ≡ digit_count k t
          by_count (no same) = omega (arith, count_mono k some t (suc t) (omega arith))
          by_count (yes more) =
              let d : digit_count k t ≡ digit_count k (suc t) - 1 = omega (arith, count_next t) in
              absurd (not_eq _ _ u (is ∙ ap (λ (c : ℕ). 2 ^ (k * c)) d))

  module _ (inputs : List ℕ) (at : ℕ) where
    -- the steps of one entry more: none for zero and for a unit
    pub next_zero : (before : List Step) → table_next k inputs at 0 before ≡ before
    unfolding table_next
    next_zero before = rw (or_left (0 =? 0) (is_unit k 0) (eq_yes 0 0 refl))

    pub next_unit : (t : ℕ) (before : List Step) → is_unit k (suc t) ≡ true → table_next k inputs at (suc t) before ≡ before
    unfolding table_next
    next_unit t before u = rw (or_right (suc t =? 0) (is_unit k (suc t)) u)

    pub next_new : (t : ℕ) (before : List Step) → is_unit k (suc t) ≡ false
        → table_next k inputs at (suc t) before ≡ before ++ ordered (entry k inputs at (suc t - 2 ^ (k * lowest k (suc t)))) (get_or inputs (lowest k (suc t)) 0) ∷ []
    unfolding table_next
    next_new t before u = rw (or_none (suc t =? 0) (is_unit k (suc t)) (eq_no (suc t) 0 (omega arith)) u)

    -- a step for each entry that is neither zero nor a unit
    pub length-table : (t : ℕ) → length (table k inputs at (suc t)) + digit_count k t ≡ t
    length-table zero = rw (next_zero [], count_zero k)
    length-table (suc t) = by_unit (length-table t) (is_unit k (suc t)) refl
      where
        by_unit : length (table k inputs at (suc t)) + digit_count k t ≡ t → (b : Bool) → is_unit k (suc t) ≡ b
            → length (table k inputs at (suc (suc t))) + digit_count k (suc t) ≡ suc t
        by_unit ih true u = omega (arith, ih, count_unit t u, ap length (next_unit t (table k inputs at (suc t)) u))
        by_unit ih false u =
            rw (next_new t (table k inputs at (suc t)) u, length-append)
            (omega (arith, ih, count_same t u))

    -- the whole table of n inputs
    pub table_count_lem : (n : ℕ) → length (table k inputs at (2 ^ (k * n))) ≡ 2 ^ (k * n) - n - 1
    table_count_lem n = by_size (2 ^ (k * n)) refl (pow_pos (k * n))
      where
        by_size : (m : ℕ) → 2 ^ (k * n) ≡ m → 0 < m → length (table k inputs at m) ≡ m - n - 1
        by_size zero e h = absurd (omega arith)
        by_size (suc t) e h = omega (arith, length-table t, count_full k some t n (sym e))

    -- the value numbers of entries: zero, a unit, and one that the table's next step makes
    pub entry_zero : entry k inputs at 0 ≡ 0
    unfolding entry
    entry_zero = rw (eq_yes 0 0 refl)

    pub entry_unit : (t : ℕ) → is_unit k (suc t) ≡ true → entry k inputs at (suc t) ≡ get_or inputs (digit_count k (suc t) - 1) 0
    unfolding entry
    entry_unit t u = rw (eq_no (suc t) 0 (omega arith), u)

    pub entry_new : (t : ℕ) → is_unit k (suc t) ≡ false → entry k inputs at (suc t) ≡ at + length (table k inputs at (suc t))
    unfolding entry
    entry_new t u = rw (eq_no (suc t) 0 (omega arith), u) (omega (arith, length-table t, count_same t u))

    -- entry 0 alone is empty
    pub entry_sign : 0 < at → ((j : ℕ) → j < length inputs → 0 < get_or inputs j 0) → (t : ℕ) → t < 2 ^ (k * length inputs) → sign (entry k inputs at t) ≡ sign t
    entry_sign start inputs-some zero h = ap sign entry_zero
    entry_sign start inputs-some (suc t) h = by_unit (is_unit k (suc t)) refl
      where
        by_unit : (b : Bool) → is_unit k (suc t) ≡ b → sign (entry k inputs at (suc t)) ≡ 1
        by_unit true u =
            rw (entry_unit t u) (sign_some _ (inputs-some _ (omega (arith, count_some k t, low_count k some (suc t) (length inputs) h))))
        by_unit false u = rw (entry_new t u) (sign_some (at + length (table k inputs at (suc t))) (omega arith))
