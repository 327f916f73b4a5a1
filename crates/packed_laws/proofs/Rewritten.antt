-- A field that says an amount, written anew from it: its digits are the same, and so are its bytes but for one that ends in unsigned, which is 3 less.
use mathlib.Core.Path.{◌≡◌, refl, sym, ap, ap₂, ◌∙◌}
use mathlib.Core.Bool.{cond}
use mathlib.Core.Logic.{◌≢◌, ◌⊎◌, inl, inr}
use mathlib.Core.List.{List, [], ◌∷◌, ◌++◌}
use Prim.Native.Nat.{ℕ, ◌+◌, ◌*◌, ◌/◌, ◌%◌, ◌≤◌, ◌<◌}
use native.Mathlib.Decide.{ℕ_discrete}
use native.Mathlib.Omega.{arith}
use lib.ListN.{length, get_or, set}
use lib.Seq.{get_or-set_same, get_or-set_other}
use Rattle.chain.specs.Tests.{◌=?◌}
use Rattle.chain.proofs.Rules.{eq_yes, eq_no}
use Rattle.packed.specs.Field.{field_bytes, most_packed, plus, unsigned, joined, digits_of, sign_of, amount_of, field_of, written_back, field_from}
use Rattle.packed.proofs.Field.{five_bytes}
use Rattle.packed_laws.specs.Kinds.{Sayable}
use Rattle.packed_laws.proofs.Digits.{field_low, said_low, last_said}
use Rattle.packed_laws.proofs.Rows.{field_byte}

-- the sign that is written back
abbrev sign_back : ℕ → ℕ
sign_back s = cond (s =? unsigned) plus s

sign_kept : (s : ℕ) → s ≢ unsigned → sign_back s ≡ s
sign_kept s ne = rw (eq_no s unsigned ne)

sign_plus : (s : ℕ) → s ≡ unsigned → sign_back s ≡ plus
sign_plus s e = rw (eq_yes s unsigned e)

plus_again : (s : ℕ) → (s ≡ plus) ⊎ (s ≡ unsigned) → sign_back s ≡ plus
plus_again s (inl e) = sign_kept s (omega arith) ∙ e
plus_again s (inr e) = sign_plus s e

-- the last byte that is written back
abbrev last_back : ℕ → ℕ
last_back b = b / 16 * 16 + sign_back (b % 16)

-- a field of five bytes
module _ (a b c d e : ℕ) where
  abbrev five : List ℕ
  five = a ∷ b ∷ c ∷ d ∷ e ∷ []

  anew_five : Sayable five → field_of (amount_of five) ≡ written_back five
  unfolding field_of amount_of digits_of sign_of written_back
  anew_five s =
      ap (λ (ds : List ℕ). joined (ds ++ plus ∷ [])) (last_said 0 (digits_of five) (field_low five s.digits_low))
      ∙ ap (λ (sign : ℕ). joined (digits_of five ++ sign ∷ [])) (sym (plus_again (sign_of five) s.sign_is))

  low_five : Sayable five → amount_of five ≤ most_packed
  unfolding amount_of digits_of
  low_five s = omega (arith, said_low (digits_of five) (field_low five s.digits_low))

  back_five : written_back five ≡ set five 4 (last_back e)
  unfolding written_back sign_of
  back_five = ap₂ ◌∷◌ (omega arith) (ap₂ ◌∷◌ (omega arith) (ap₂ ◌∷◌ (omega arith) (ap₂ ◌∷◌ (omega arith) refl)))

module _ (bytes : List ℕ) (at : ℕ) (there : at + field_bytes ≤ length bytes) where
  abbrev field : List ℕ
  field = field_from bytes at

  pub written_anew : Sayable field → field_of (amount_of field) ≡ written_back field
  written_anew = rw (five_bytes bytes at there) (anew_five _ _ _ _ _)

  pub amount_low : Sayable field → amount_of field ≤ most_packed
  amount_low = rw (five_bytes bytes at there) (low_five _ _ _ _ _)

  abbrev byte : ℕ → ℕ
  byte j = get_or bytes (at + j) 0

  back_is : written_back field ≡ set field 4 (last_back (byte 4))
  back_is = rw (five_bytes bytes at there) (back_five _ _ _ _ _)

  last_is : get_or (written_back field) 4 0 ≡ last_back (byte 4)
  last_is =
      ap (λ (l : List ℕ). get_or l 4 0) back_is ∙ get_or-set_same field 4 (last_back (byte 4)) 0 (omega (arith, ap length (five_bytes bytes at there)))

  pub byte_kept : (j : ℕ) → j < field_bytes → (j ≡ 4 → byte j % 16 ≢ unsigned) → get_or (written_back field) j 0 ≡ byte j
  byte_kept j h kept = by_place (ℕ_discrete j 4)
    where
      by_place : Dec (j ≡ 4) → get_or (written_back field) j 0 ≡ byte j
      by_place (yes e) =
          let ne : byte 4 % 16 ≢ unsigned = rw e at (kept e) in
          rw e (omega (arith, last_is, sign_kept (byte 4 % 16) ne))
      by_place (no ne) = ap (λ (l : List ℕ). get_or l j 0) back_is ∙ get_or-set_other field 4 j (last_back (byte 4)) 0 ne ∙ field_byte bytes at j h

  pub byte_plus : byte 4 % 16 ≡ unsigned → get_or (written_back field) 4 0 + 3 ≡ byte 4
  byte_plus e = omega (arith, last_is, sign_plus (byte 4 % 16) e)
