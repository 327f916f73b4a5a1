-- Fields in a row: those of written amounts are found again where they were put.
use mathlib.Core.Path.{◌≡◌, refl, ap, ap₂, ◌∙◌}
use mathlib.Core.List.{List, [], ◌∷◌, ◌++◌, map}
use Prim.Native.Nat.{ℕ, zero, suc, ◌+◌, ◌*◌, ◌<◌}
use native.Mathlib.Omega.{arith}
use lib.ListN.{length, get_or, take, drop}
use lib.Seq.{get_or-take, get_or-drop, take_at, drop-append-add}
use Rattle.packed.specs.Field.{field_bytes, field_of, field_from}
use Rattle.packed.specs.Packed.{packed}
use Rattle.packed.proofs.Fields.{length-field}

-- functions that agree on a list's members
pub map_same : {A B : Type 0} (f g : A → B) (d : A) (l : List A) → ((k : ℕ) → k < length l → f (get_or l k d) ≡ g (get_or l k d)) → map f l ≡ map g l
map_same f g d [] same = refl
map_same f g d (x ∷ l) same = ap₂ ◌∷◌ (same 0 (omega arith)) (map_same f g d l (λ k h. same (suc k) (omega arith)))

-- a field's bytes
pub field_byte : (bytes : List ℕ) (at j : ℕ) → j < field_bytes → get_or (field_from bytes at) j 0 ≡ get_or bytes (at + j) 0
field_byte bytes at j h = get_or-take field_bytes (drop at bytes) j 0 h ∙ get_or-drop at bytes j 0

pub packed_field : (amounts : List ℕ) (k : ℕ) → k < length amounts → field_from (packed amounts) (field_bytes * k) ≡ field_of (get_or amounts k 0)
packed_field [] k h = absurd (omega arith)
packed_field (a ∷ r) zero h = take_at (field_of a) (packed r) field_bytes (length-field a)
packed_field (a ∷ r) (suc k) h =
    let e : field_bytes * suc k ≡ length (field_of a) + field_bytes * k = omega (arith, length-field a) in
    ap (λ (n : ℕ). take field_bytes (drop n (field_of a ++ packed r))) e
    ∙ ap (take field_bytes) (drop-append-add (field_of a) (packed r) (field_bytes * k))
    ∙ packed_field r k (omega arith)
