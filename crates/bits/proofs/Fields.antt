-- Fields of one width meet at its multiples, so a field is found by dropping whole ones; bytes are fields of 8 bits, and a window covers a field.
use mathlib.Core.Path.{◌≡◌, refl, sym, ap, ap₂, ◌∙◌}
use mathlib.Core.Bool.{Bool}
use mathlib.Core.List.{List, [], ◌∷◌, ◌++◌, append_assoc}
use Prim.Native.Nat.{ℕ, zero, suc, ◌+◌, ◌-◌, ◌*◌, ◌/◌, ◌%◌, ◌^◌, ◌≤◌, ◌<◌}
use native.Mathlib.Nat.{zero-mul, suc-mul, lt_of_not-le, lt_of_lt_of_le}
use native.Mathlib.Decide.{dec_le}
use native.Mathlib.Omega.{arith}
use lib.ListN.{length, take, drop, get_or, length-append, length-take, length-drop}
use lib.Seq.{length-take-le, take-nil, take-add, drop-nil, drop-drop, drop-cons, take-append-add, drop-append-add}
use lib.Pow.{pow_mono}
use Rattle.bits.specs.Bits.{bits, fields, value, bytes_bits, field_at, fields_at}
use Rattle.bits.specs.Inner.{window}
use Rattle.bits.proofs.Parts.{drop-take, take_none, take_both}
use Rattle.bits.proofs.Values.{length-bits, value_bits_lt, value_lt, bits_value, value-append, value_slice}

module _ (w : ℕ) where
  pub length_fields : (l : List ℕ) → length (fields w l) ≡ length l * w
  unfolding fields
  length_fields [] = sym (zero-mul w)
  length_fields (x ∷ l) =
      length-append (bits w x) (fields w l) ∙ ap₂ (λ (a b : ℕ). a + b) (length-bits w x) (length_fields l)
      ∙ omega (arith, suc-mul (length l) w)

  pub fields-append : (a b : List ℕ) → fields w (a ++ b) ≡ fields w a ++ fields w b
  unfolding fields
  fields-append [] b = refl
  fields-append (x ∷ a) b = ap (λ (r : List Bool). bits w x ++ r) (fields-append a b) ∙ sym (append_assoc (bits w x) (fields w a) (fields w b))

  past : (i x : ℕ) → suc i * w ≡ length (bits w x) + i * w
  past i x = omega (arith, suc-mul i w, length-bits w x)

  -- the seam before field i
  pub drop-fields : (i : ℕ) (l : List ℕ) → drop (i * w) (fields w l) ≡ fields w (drop i l)
  unfolding fields
  drop-fields zero l = ap (λ (n : ℕ). drop n (fields w l)) (zero-mul w)
  drop-fields (suc i) [] = drop-nil (suc i * w)
  drop-fields (suc i) (x ∷ l) =
      ap (λ (n : ℕ). drop n (fields w (x ∷ l))) (past i x)
      ∙ drop-append-add (bits w x) (fields w l) (i * w)
      ∙ drop-fields i l

  pub take-fields : (i : ℕ) (l : List ℕ) → take (i * w) (fields w l) ≡ fields w (take i l)
  unfolding fields
  take-fields zero l = ap (λ (n : ℕ). take n (fields w l)) (zero-mul w)
  take-fields (suc i) [] = take-nil (suc i * w)
  take-fields (suc i) (x ∷ l) =
      ap (λ (n : ℕ). take n (fields w (x ∷ l))) (past i x)
      ∙ take-append-add (bits w x) (fields w l) (i * w)
      ∙ ap (λ (r : List Bool). bits w x ++ r) (take-fields i l)

-- the bits of bytes
pub length-bytes_bits : (l : List ℕ) → length (bytes_bits l) ≡ length l * 8
unfolding bytes_bits
length-bytes_bits l = length_fields 8 l

pub bytes_bits-append : (a b : List ℕ) → bytes_bits (a ++ b) ≡ bytes_bits a ++ bytes_bits b
unfolding bytes_bits
bytes_bits-append a b = fields-append 8 a b

pub bytes_bits-cons : (b : ℕ) (l : List ℕ) → bytes_bits (b ∷ l) ≡ bits 8 b ++ bytes_bits l
unfolding bytes_bits fields
bytes_bits-cons b l = refl

pub bytes_bits-nil : bytes_bits [] ≡ []
unfolding bytes_bits fields
bytes_bits-nil = refl

pub drop-bytes_bits : (i : ℕ) (l : List ℕ) → drop (i * 8) (bytes_bits l) ≡ bytes_bits (drop i l)
unfolding bytes_bits
drop-bytes_bits i l = drop-fields 8 i l

pub take-bytes_bits : (i : ℕ) (l : List ℕ) → take (i * 8) (bytes_bits l) ≡ bytes_bits (take i l)
unfolding bytes_bits
take-bytes_bits i l = take-fields 8 i l

pub length-window : (n : ℕ) (l : List ℕ) (i : ℕ) → length (window n l i) ≡ n
unfolding window
length-window zero l i = refl
length-window (suc n) l i = ap suc (length-window n l (suc i))

-- the first k bits of the rest of a list are those of a window that covers them
take-window : (n : ℕ) (l : List ℕ) (i k : ℕ) → k ≤ n * 8 → k ≤ (length l - i) * 8 → take k (bytes_bits (drop i l)) ≡ take k (bytes_bits (window n l i))
unfolding window
take-window zero l i k hn hl = take_none k _ _ (omega (arith, zero-mul 8))
take-window (suc n) l i k hn hl = by_place (λ h. take-window n l (suc i) (k - 8) (omega (arith, suc-mul n 8)) (omega arith)) (dec_le (length l) i)
  where
    by_place : (i < length l → take (k - 8) (bytes_bits (drop (suc i) l)) ≡ take (k - 8) (bytes_bits (window n l (suc i)))) → Dec (length l ≤ i)
        → take k (bytes_bits (drop i l)) ≡ take k (bytes_bits (get_or l i 0 ∷ window n l (suc i)))
    by_place rest (yes past) = take_none k _ _ (omega arith)
    by_place rest (no before) =
        let h : i < length l = lt_of_not-le before in
        ap (λ (t : List ℕ). take k (bytes_bits t)) (drop-cons l i 0 h)
        ∙ ap (take k) (bytes_bits-cons (get_or l i 0) (drop (suc i) l))
        ∙ take_both k 8 (bits 8 (get_or l i 0)) _ _ (length-bits 8 (get_or l i 0)) (rest h)
        ∙ ap (take k) (sym (bytes_bits-cons (get_or l i 0) (window n l (suc i))))

-- a field, out of a window that covers it: it stands o bits behind the window's begin
pub field_window : (n : ℕ) (l : List ℕ) (i o at w : ℕ) → at ≡ i * 8 + o → o + w ≤ n * 8 → at + w ≤ 8 * length l
    → field_at l at w ≡ value (bytes_bits (window n l i)) / 2 ^ (n * 8 - (o + w)) % 2 ^ w
field_window n l i o at w place hn hl =
    let x : List Bool = bytes_bits (window n l i) in
    ap (λ (m : ℕ). value (take w (drop m (bytes_bits l)))) place
    ∙ ap (λ (t : List Bool). value (take w t)) (sym (drop-drop o (i * 8) (bytes_bits l)) ∙ ap (drop o) (drop-bytes_bits i l))
    ∙ ap value (drop-take o w (bytes_bits (drop i l)) ∙ ap (drop o) (take-window n l i (o + w) hn (omega arith)) ∙ sym (drop-take o w x))
    ∙ value_slice x o w (n * 8) (length-bytes_bits (window n l i) ∙ ap (λ (m : ℕ). m * 8) (length-window n l i)) hn

pub value_bytes : (b : ℕ) (l : List ℕ) → b < 256 → value (bytes_bits (b ∷ l)) ≡ b * 2 ^ (length l * 8) + value (bytes_bits l)
value_bytes b l h =
    ap value (bytes_bits-cons b l) ∙ value-append (bits 8 b) (bytes_bits l)
    ∙ ap₂ (λ (v n : ℕ). v * 2 ^ n + value (bytes_bits l)) (value_bits_lt 8 b h) (length-bytes_bits l)

-- the next fields of a file
pub length_fields_at : (f : List ℕ) (at w n : ℕ) → length (fields_at f at w n) ≡ n
unfolding fields_at
length_fields_at f at w zero = refl
length_fields_at f at w (suc n) = ap suc (length_fields_at f (at + w) w n)

-- a field is below its power of two
pub field_lt : (f : List ℕ) (at w : ℕ) → field_at f at w < 2 ^ w
field_lt f at w =
    lt_of_lt_of_le (value_lt (take w (drop at (bytes_bits f)))) (pow_mono {j = w} (omega (arith, length-take w (drop at (bytes_bits f)))))

-- the bits of a file are those of its fields
module _ (f : List ℕ) (w : ℕ) where
  pub bits_field : (at : ℕ) → at + w ≤ 8 * length f → bits w (field_at f at w) ≡ take w (drop at (bytes_bits f))
  bits_field at h =
      bits_value (take w (drop at (bytes_bits f))) w
      (length-take-le w (drop at (bytes_bits f)) (omega (arith, length-drop at (bytes_bits f), length-bytes_bits f)))

  pub fields_fields : (at n : ℕ) → at + n * w ≤ 8 * length f → fields w (fields_at f at w n) ≡ take (n * w) (drop at (bytes_bits f))
  unfolding fields fields_at
  fields_fields at zero h = sym (ap (λ (k : ℕ). take k (drop at (bytes_bits f))) (zero-mul w))
  fields_fields at (suc n) h =
      let e : w + n * w ≡ suc n * w = omega (arith, suc-mul n w) in
      ap₂ (λ (x y : List Bool). x ++ y) (bits_field at (omega arith)) (fields_fields (at + w) n (omega arith))
      ∙ ap (λ (x : List Bool). take w (drop at (bytes_bits f)) ++ take (n * w) x) (sym (drop-drop w at (bytes_bits f)))
      ∙ sym (take-add w (n * w) (drop at (bytes_bits f)))
      ∙ ap (λ (k : ℕ). take k (drop at (bytes_bits f))) e
