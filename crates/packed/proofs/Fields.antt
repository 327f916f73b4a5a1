-- Fields cut from bytes: there are as many as asked for, field k begins at byte 5 k, and amount k is that of field k. Fields put in a row are five bytes each.
use mathlib.Core.Path.{◌≡◌, refl, sym, ap, ◌∙◌}
use mathlib.Core.List.{List, [], ◌∷◌, ◌++◌, map, append-nil, append_assoc}
use Prim.Native.Nat.{ℕ, zero, suc, ◌+◌, ◌*◌, ◌<◌}
use native.Mathlib.Omega.{arith}
use lib.ListN.{length, get_or, take, drop, length-append, length-map, get_or-map}
use lib.Seq.{drop-drop}
use Rattle.packed.specs.Field.{field_bytes, digits_of, amount_of, field_of, field_from, fields_in}
use Rattle.packed.specs.Packed.{packed}

pub length_fields : (m : ℕ) (bytes : List ℕ) → length (fields_in m bytes) ≡ m
length_fields zero bytes = refl
length_fields (suc m) bytes = ap suc (length_fields m (drop field_bytes bytes))

pub field_is : (m : ℕ) (bytes : List ℕ) (k : ℕ) → k < m → get_or (fields_in m bytes) k [] ≡ field_from bytes (field_bytes * k)
field_is zero bytes k h = absurd (omega arith)
field_is (suc m) bytes zero h = refl
field_is (suc m) bytes (suc k) h =
    let e : field_bytes + field_bytes * k ≡ field_bytes * suc k = omega arith in
    field_is m (drop field_bytes bytes) k (omega arith)
    ∙ ap (take field_bytes) (drop-drop (field_bytes * k) field_bytes bytes ∙ ap (λ (n : ℕ). drop n bytes) e)

-- the amounts of the first m fields
pub length_amounts : (m : ℕ) (bytes : List ℕ) → length (map amount_of (fields_in m bytes)) ≡ m
length_amounts m bytes = length-map (fields_in m bytes) amount_of ∙ length_fields m bytes

pub amount_is : (m : ℕ) (bytes : List ℕ) (k : ℕ) → k < m → get_or (map amount_of (fields_in m bytes)) k 0 ≡ amount_of (field_from bytes (field_bytes * k))
unfolding amount_of digits_of
amount_is m bytes k h = get_or-map amount_of (fields_in m bytes) k [] ∙ ap amount_of (field_is m bytes k h)

-- the fields of amounts
pub length-field : (x : ℕ) → length (field_of x) ≡ field_bytes
unfolding field_of
length-field x = refl

pub length-packed : (l : List ℕ) → length (packed l) ≡ field_bytes * length l
length-packed [] = refl
length-packed (x ∷ l) = length-append (field_of x) (packed l) ∙ omega (arith, length-field x, length-packed l)

-- one amount more
pub packed_more : (l : List ℕ) (x : ℕ) → packed (l ++ x ∷ []) ≡ packed l ++ field_of x
packed_more [] x = append-nil (field_of x)
packed_more (y ∷ l) x = ap (λ (r : List ℕ). field_of y ++ r) (packed_more l x) ∙ sym (append_assoc (field_of y) (packed l) (field_of x))
