-- A written field: its half-bytes are the digits of its amount and plus, so it says that amount.
use mathlib.Core.Path.{◌≡◌, refl, ap, ap₂, ◌∙◌}
use mathlib.Core.Logic.{inl}
use mathlib.Core.List.{List, [], ◌∷◌, ◌++◌}
use Prim.Native.Nat.{ℕ, ◌+◌, ◌*◌, ◌/◌, ◌%◌, ◌≤◌, ◌<◌}
use native.Mathlib.Omega.{arith}
use lib.ListN.{get_or, take, get_or-append}
use Rattle.packed.specs.Field.{field_digits, most_packed, plus, halves, digits_of, sign_of, said_after, amount_of, last_digits, field_of}
use Rattle.packed_laws.specs.Kinds.{Sayable}
use Rattle.packed_laws.proofs.Digits.{last_low, said_last}

-- a byte made of two half-bytes is taken apart again
apart : (h l : ℕ) {t s : List ℕ} → l < 16 → t ≡ s → (h * 16 + l) / 16 ∷ (h * 16 + l) % 16 ∷ t ≡ h ∷ l ∷ s
apart h l low e = ap₂ ◌∷◌ (omega arith) (ap₂ ◌∷◌ (omega arith) e)

module _ (a : ℕ) where
  halves_written : halves (field_of a) ≡ last_digits field_digits a ++ plus ∷ []
  unfolding field_of
  halves_written = apart _ _ (omega arith) (apart _ _ (omega arith) (apart _ _ (omega arith) (apart _ _ (omega arith) (apart _ _ (omega arith) refl))))

  pub written_sign : sign_of (field_of a) ≡ plus
  unfolding sign_of
  written_sign = ap (λ (l : List ℕ). get_or l field_digits 0) halves_written

  pub written_sayable : Sayable (field_of a)
  written_sayable = record { digits_low = low; sign_is = inl written_sign }
    where
      low : (k : ℕ) → k < field_digits → get_or (halves (field_of a)) k 0 ≤ 9
      low k h = rw halves_written (rw (get_or-append (last_digits field_digits a) (plus ∷ []) 0 k h) (last_low field_digits a k))

  pub amount_written : a ≤ most_packed → amount_of (field_of a) ≡ a
  unfolding amount_of digits_of
  amount_written h = ap (λ (l : List ℕ). said_after 0 (take field_digits l)) halves_written ∙ said_last field_digits a 0 ∙ omega arith
