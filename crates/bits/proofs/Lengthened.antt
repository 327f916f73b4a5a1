-- The bits of a file begin those of any list that begins with it, so its fields are found there too.
use mathlib.Core.Path.{◌≡◌, refl, sym, ap, ap₂, ◌∙◌}
use mathlib.Core.List.{List, ◌∷◌, ◌++◌}
use Prim.Native.Nat.{ℕ, zero, suc, ◌+◌, ◌*◌, ◌≤◌}
use native.Mathlib.Nat.{suc-mul}
use native.Mathlib.Omega.{arith}
use lib.ListN.{length, take, drop}
use lib.Seq.{take-append-le}
use Rattle.chain.specs.Written.{over}
use Rattle.chain.proofs.Written.{over-length}
use Rattle.bits.specs.Bits.{value, bytes_bits, field_at, fields_at}
use Rattle.bits.proofs.Parts.{drop-take}
use Rattle.bits.proofs.Fields.{length-bytes_bits, bytes_bits-append}

module _ (file old long : List ℕ) (is : long ≡ over file old) where
  pub long-length : length file ≤ length old → length long ≡ length old
  long-length fits = ap length is ∙ over-length file old fits

  field_long : (at w : ℕ) → at + w ≤ 8 * length file → field_at long at w ≡ field_at file at w
  unfolding over
  field_long at w within =
      let rest : List ℕ = drop (length file) old in
      ap (λ (l : List ℕ). field_at l at w) is
      ∙ ap value
      (drop-take at w (bytes_bits (file ++ rest))
      ∙ ap (drop at)
      (ap (take (at + w)) (bytes_bits-append file rest)
      ∙ take-append-le (at + w) (bytes_bits file) (bytes_bits rest) (omega (arith, within, length-bytes_bits file)))
      ∙ sym (drop-take at w (bytes_bits file)))

  pub fields_long : (at w n : ℕ) → at + n * w ≤ 8 * length file → fields_at long at w n ≡ fields_at file at w n
  unfolding fields_at
  fields_long at w zero within = refl
  fields_long at w (suc n) within =
      ap₂ (λ (x : ℕ) (r : List ℕ). x ∷ r) (field_long at w (omega (arith, within, suc-mul n w)))
      (fields_long (at + w) w n (omega (arith, within, suc-mul n w)))
