-- What is found of a field is decided by its digits and its sign: whether one digit is above 9, and which sign it has.
use mathlib.Core.Path.{◌≡◌, refl, sym, ap, ◌∙◌}
use mathlib.Core.Bool.{Bool, true, false, not}
use mathlib.Core.Logic.{◌≢◌, ◌⊎◌, inl, inr}
use mathlib.Core.List.{List, [], ◌∷◌}
use Prim.Native.Nat.{ℕ, zero, suc, ◌≤◌, ◌<◌}
use native.Mathlib.Nat.{le_trans}
use native.Mathlib.Decide.{dec_le, ℕ_discrete}
use native.Mathlib.Omega.{arith}
use lib.ListN.{get_or}
use lib.Seq.{get_or-take}
use Rattle.digits.specs.Range.{max_to}
use Rattle.digits.proofs.Range.{le_max, max_attained}
use Rattle.chain.specs.Tests.{◌or◌}
use Rattle.chain.specs.Verdict.{fine, refused}
use Rattle.chain.proofs.Rules.{lt_yes, lt_no, eq_yes, eq_no, or_left, or_right, or_none, refuse_yes, refuse_no, stop, pass, not_fine}
use Rattle.packed.specs.Field.{field_digits, plus, minus, unsigned, halves, digits_of, sign_of, any_above9, is_sign, field_rule}
use Rattle.packed_laws.specs.Kinds.{Decimal, Sayable, Negative, Spoilt, high_digit, no_sign, Kind, sayable, negative, spoilt, Kinds}
use Rattle.packed_laws.proofs.Digits.{Low, field_low}

none_above : (l : List ℕ) → Low l → any_above9 l ≡ false
none_above [] low = refl
none_above (d ∷ r) low = or_none _ _ (lt_no 9 d (low 0 (omega arith))) (none_above r (λ k h. low (suc k) (omega arith)))

one_above : (l : List ℕ) (k : ℕ) → 9 < get_or l k 0 → any_above9 l ≡ true
one_above [] k high = absurd (omega arith)
one_above (d ∷ r) zero high = or_left _ _ (lt_yes 9 d high)
one_above (d ∷ r) (suc k) high = or_right _ _ (one_above r k high)

-- a sign of an amount is one of the three
is_sign_lem : (s : ℕ) → (s ≡ plus) ⊎ (s ≡ minus) ⊎ (s ≡ unsigned) → is_sign s ≡ true
unfolding is_sign
is_sign_lem s (inl e) = or_left _ _ (eq_yes s plus e)
is_sign_lem s (inr (inl e)) = or_right _ _ (or_left _ _ (eq_yes s minus e))
is_sign_lem s (inr (inr e)) = or_right _ _ (or_right _ _ (eq_yes s unsigned e))

no_sign_of : (s : ℕ) → s ≢ plus → s ≢ minus → s ≢ unsigned → is_sign s ≡ false
unfolding is_sign
no_sign_of s p m u = or_none _ _ (eq_no s plus p) (or_none _ _ (eq_no s minus m) (eq_no s unsigned u))

module _ (field : List ℕ) where
  -- the test by which a field says no amount
  abbrev says_none : Bool
  says_none = any_above9 (digits_of field) or not (is_sign (sign_of field))

  says_one : Decimal field → is_sign (sign_of field) ≡ true → says_none ≡ false
  says_one low sign = or_none _ _ (none_above (digits_of field) (field_low field low)) (ap not sign)

  spoilt_says_none : Spoilt field → says_none ≡ true
  unfolding digits_of
  spoilt_says_none (high_digit k h high) =
      or_left _ _ (one_above (digits_of field) k (rw (get_or-take field_digits (halves field) k 0 h) high))
  spoilt_says_none (no_sign p m u) = or_right _ _ (ap not (no_sign_of (sign_of field) p m u))

  by_signs : Decimal field → Dec (sign_of field ≡ plus) → Dec (sign_of field ≡ minus) → Dec (sign_of field ≡ unsigned) → Kind field
  by_signs low (yes e) m u = sayable (record { digits_low = low; sign_is = inl e })
  by_signs low (no p) (yes e) u = negative (record { digits_low = low; sign_is = e })
  by_signs low (no p) (no m) (yes e) = sayable (record { digits_low = low; sign_is = inr e })
  by_signs low (no p) (no m) (no u) = spoilt (no_sign p m u)

  -- the largest digit tells whether one is above 9
  some_kind : Kind field
  some_kind = by_largest (dec_le (max_to field_digits digit) 9)
    where
      digit : ℕ → ℕ
      digit k = get_or (halves field) k 0

      by_largest : Dec (max_to field_digits digit ≤ 9) → Kind field
      by_largest (yes le) =
          by_signs (λ k h. le_trans (le_max field_digits digit k h) le) (ℕ_discrete (sign_of field) plus) (ℕ_discrete (sign_of field) minus)
          (ℕ_discrete (sign_of field) unsigned)
      by_largest (no gt) =
          let most = max_attained field_digits digit (omega arith) in
          spoilt (high_digit most.place most.below (omega (arith, most.largest)))

  module _ (i : ℕ) where
    sayable_fine : Sayable field → field_rule i field ≡ fine
    unfolding field_rule
    sayable_fine s = by_sign s.sign_is
      where
        reads : is_sign (sign_of field) ≡ true → sign_of field ≢ minus → field_rule i field ≡ fine
        reads sign ne = sym (pass _ _ fine (refuse_no _ 18 i (says_one s.digits_low sign)) (refuse_no _ 19 i (eq_no _ minus ne)))

        by_sign : (sign_of field ≡ plus) ⊎ (sign_of field ≡ unsigned) → field_rule i field ≡ fine
        by_sign (inl e) = reads (is_sign_lem _ (inl e)) (omega arith)
        by_sign (inr e) = reads (is_sign_lem _ (inr (inr e))) (omega arith)

    negative_refused : Negative field → field_rule i field ≡ refused 19 i
    unfolding field_rule
    negative_refused n =
        sym
        (pass _ _ (refused 19 i) (refuse_no _ 18 i (says_one n.digits_low (is_sign_lem _ (inr (inl n.sign_is)))))
        (refuse_yes _ 19 i (eq_yes _ minus n.sign_is)))

    spoilt_refused : Spoilt field → field_rule i field ≡ refused 18 i
    unfolding field_rule
    spoilt_refused s = sym (stop _ _ 18 i (refuse_yes _ 18 i (spoilt_says_none s)))

    fine_sayable : field_rule i field ≡ fine → Sayable field
    fine_sayable ok = by_kind some_kind
      where
        by_kind : Kind field → Sayable field
        by_kind (sayable s) = s
        by_kind (negative n) = absurd (not_fine (sym (negative_refused n) ∙ ok))
        by_kind (spoilt s) = absurd (not_fine (sym (spoilt_refused s) ∙ ok))

pub kinds : (field : List ℕ) → Kinds field
kinds field =
    record {
      some_kind = some_kind field;
      sayable_fine = λ s i. sayable_fine field i s;
      fine_sayable = fine_sayable field;
      negative_refused = λ n i. negative_refused field i n;
      spoilt_refused = λ s i. spoilt_refused field i s;
    }
