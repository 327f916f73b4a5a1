-- What is found of a field, from its bytes: four bytes are digits throughout exactly if each counts as a pair, and then the last byte decides.
use mathlib.Core.Path.{◌≡◌, refl, sym, ap, ◌∙◌}
use mathlib.Core.Bool.{Bool, true, false, cond}
use mathlib.Core.List.{List, [], ◌∷◌}
use Prim.Native.Nat.{ℕ, ◌+◌, ◌/◌, ◌%◌, ◌≤◌, ◌<◌}
use native.Mathlib.Decide.{dec_lt}
use native.Mathlib.Omega.{arith}
use lib.ListN.{length, get_or}
use Rattle.chain.specs.Tests.{◌<?◌, ◌=?◌, ◌or◌}
use Rattle.chain.specs.Verdict.{Verdict, fine, refused, ◌then◌, refuse_if}
use Rattle.chain.proofs.Rules.{lt_yes, lt_no, eq_no, or_left, refuse_yes, stop}
use Rattle.packed.specs.Field.{field_bytes, plus, minus, unsigned, digits_of, sign_of, any_above9, is_sign, field_rule, field_from}
use Rattle.packed.specs.Inner.{digit_pair, pairs_at, sign_rule}
use Rattle.packed.proofs.Field.{five_at, five_bytes}

-- one of a byte's halves is above 9
abbrev above : ℕ → Bool
above b = 9 <? b / 16 or 9 <? b % 16

pair_is : (b : ℕ) → digit_pair b ≡ cond (above b) 0 1
unfolding digit_pair ◌or◌
pair_is b = by_halves (dec_lt b 160) (dec_lt (b % 16) 10)
  where
    by_halves : Dec (b < 160) → Dec (b % 16 < 10) → digit_pair b ≡ cond (above b) 0 1
    by_halves (yes h) (yes l) = rw (lt_yes b 160 h, lt_yes (b % 16) 10 l, lt_no 9 (b / 16) (omega arith), lt_no 9 (b % 16) (omega arith))
    by_halves (yes h) (no l) = rw (lt_yes b 160 h, lt_no (b % 16) 10 (omega arith), lt_no 9 (b / 16) (omega arith), lt_yes 9 (b % 16) (omega arith))
    by_halves (no h) l = rw (lt_no b 160 (omega arith), lt_yes 9 (b / 16) (omega arith))

-- four tests of which one holds, or none
some_of : (t u v w r : Bool) → cond t 0 1 + cond u 0 1 + cond v 0 1 + cond w 0 1 < 4 → (t or u or v or w or r) ≡ true
unfolding ◌or◌
some_of true u v w r h = refl
some_of false true v w r h = refl
some_of false false true w r h = refl
some_of false false false true r h = refl
some_of false false false false r h = absurd (omega arith)

one : (t : Bool) → cond t 0 1 ≤ 1
one true = omega arith
one false = omega arith

none_of : (t u v w r : Bool) → 4 ≤ cond t 0 1 + cond u 0 1 + cond v 0 1 + cond w 0 1 → (t or u or v or w or r) ≡ r
unfolding ◌or◌
none_of true u v w r h = absurd (omega (arith, one u, one v, one w))
none_of false true v w r h = absurd (omega (arith, one v, one w))
none_of false false true w r h = absurd (omega (arith, one w))
none_of false false false true r h = absurd (omega arith)
none_of false false false false r h = refl

-- two tests before others, as one
both : (t u r r' : Bool) → r ≡ r' → (t or u or r) ≡ ((t or u) or r')
unfolding ◌or◌
both true u r r' e = refl
both false true r r' e = refl
both false false r r' e = e

or_last : (t : Bool) → t or false ≡ t
unfolding ◌or◌
or_last true = refl
or_last false = refl

-- a field by its bytes
module _ (a b c d e i : ℕ) where
  abbrev field : List ℕ
  field = a ∷ b ∷ c ∷ d ∷ e ∷ []

  abbrev pairs : ℕ
  pairs = digit_pair a + digit_pair b + digit_pair c + digit_pair d

  -- its digits, byte by byte
  by_bytes : any_above9 (digits_of field) ≡ (above a or above b or above c or above d or 9 <? e / 16)
  unfolding digits_of
  by_bytes = both _ _ _ _ (both _ _ _ _ (both _ _ _ _ (both _ _ _ _ (or_last (9 <? e / 16)))))

  pub pairs_bad : pairs < 4 → refused 18 i ≡ field_rule i field
  unfolding field_rule
  pairs_bad h =
      stop _ _ 18 i
      (refuse_yes _ 18 i
      (or_left _ _
      (by_bytes ∙ some_of (above a) (above b) (above c) (above d) (9 <? e / 16) (omega (arith, pair_is a, pair_is b, pair_is c, pair_is d)))))

  module _ (good : 4 ≤ pairs) where
    last_decides : any_above9 (digits_of field) ≡ 9 <? e / 16
    last_decides =
        by_bytes ∙ none_of (above a) (above b) (above c) (above d) (9 <? e / 16) (omega (arith, pair_is a, pair_is b, pair_is c, pair_is d))

    pub last_bad : 160 ≤ e → refused 18 i ≡ field_rule i field
    unfolding field_rule
    last_bad h = stop _ _ 18 i (refuse_yes _ 18 i (or_left _ _ (last_decides ∙ lt_yes 9 (e / 16) (omega arith))))

    pub sign_decides : e < 160 → sign_rule i (e % 16) ≡ field_rule i field
    unfolding field_rule sign_rule sign_of ◌or◌
    sign_decides h = rw (last_decides, lt_no 9 (e / 16) (omega arith))

-- what is found of a sign
module _ (i s : ℕ) where
  pub sign_plus : s ≡ plus → fine ≡ sign_rule i s
  unfolding sign_rule is_sign ◌=?◌ ◌or◌ refuse_if ◌then◌
  sign_plus e = rw e

  pub sign_unsigned : s ≡ unsigned → fine ≡ sign_rule i s
  unfolding sign_rule is_sign ◌=?◌ ◌or◌ refuse_if ◌then◌
  sign_unsigned e = rw e

  pub sign_minus : s ≡ minus → refused 19 i ≡ sign_rule i s
  unfolding sign_rule is_sign ◌=?◌ ◌or◌ refuse_if ◌then◌
  sign_minus e = rw e

  pub sign_none : (s ≡ plus → ⊥) → (s ≡ minus → ⊥) → (s ≡ unsigned → ⊥) → refused 18 i ≡ sign_rule i s
  unfolding sign_rule is_sign ◌or◌ refuse_if ◌then◌
  sign_none a b c = rw (eq_no s plus a, eq_no s minus b, eq_no s unsigned c)

-- the same of the field from a byte on
module _ (bytes : List ℕ) (at i : ℕ) (there : at + field_bytes ≤ length bytes) where
  is_field : (v : Verdict) → v ≡ field_rule i (five_at bytes at) → v ≡ field_rule i (field_from bytes at)
  is_field v e = e ∙ ap (field_rule i) (sym (five_bytes bytes at there))

  pub pairs_refused : pairs_at bytes at < 4 → refused 18 i ≡ field_rule i (field_from bytes at)
  pairs_refused h = is_field _ (pairs_bad _ _ _ _ _ i h)

  module _ (good : 4 ≤ pairs_at bytes at) where
    pub last_refused : 160 ≤ get_or bytes (at + 4) 0 → refused 18 i ≡ field_rule i (field_from bytes at)
    last_refused h = is_field _ (last_bad _ _ _ _ _ i good h)

    pub sign_judged : (v : Verdict) → v ≡ sign_rule i (get_or bytes (at + 4) 0 % 16) → get_or bytes (at + 4) 0 < 160 → v ≡ field_rule i (field_from bytes at)
    sign_judged v e h = is_field _ (e ∙ sign_decides _ _ _ _ _ i good h)
