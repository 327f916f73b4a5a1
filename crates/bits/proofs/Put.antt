-- What a byte holds before the field, and the field, are one number of at most 64 bits, whose leading bytes are exactly those that the bits fill.
use mathlib.Core.Path.{◌≡◌, refl, sym, ap, ap₂, ◌∙◌, subst}
use mathlib.Core.Bool.{Bool}
use mathlib.Core.List.{List, ◌∷◌, ◌++◌, append_assoc}
use Prim.Native.Nat.{ℕ, zero, suc, ◌+◌, ◌-◌, ◌*◌, ◌/◌, ◌%◌, ◌^◌, ◌≤◌, ◌<◌}
use native.Mathlib.Nat.{zero-add, suc-mul, add-mul, mul_assoc, div-add-mod', lt_of_le_of_lt}
use native.Mathlib.Omega.{arith}
use lib.ListN.{length, take, drop, get_or, length-append}
use lib.Seq.{length-take-le, drop-cons, take-append-le, take-add, take_at, drop_at}
use lib.Pow.{pow-add, shl_exact, shr_le, shr_mod}
use Rattle.chain.specs.Written.{over, laid}
use Rattle.octets.specs.Inner.{spread}
use Rattle.bits.specs.Bits.{bits, value, bytes_bits, front, pack, bytes_for}
use Rattle.bits.specs.Inner.{widest_field, filed, FieldFill, FieldStored}
use Rattle.bits.proofs.Values.{length-bits, value_bits, value_bits_lt, bits_value, bits-add, value-append, value_slice}
use Rattle.bits.proofs.Fields.{length-bytes_bits, bytes_bits-cons, take-bytes_bits, drop-bytes_bits}
use Rattle.bits.proofs.Pack.{Bytes, length_front, front-take, value_front, length-pack, pack_onto, take-pack, pack_front, Bytes_take}

-- the lowest bytes of a number are its bits packed
pack_spread : (n x : ℕ) → pack n (bits (n * 8) x) ≡ spread n x
unfolding pack spread
pack_spread zero x = refl
pack_spread (suc n) x =
    let e : suc n * 8 ≡ 8 + n * 8 = omega (arith, suc-mul n 8) in
    let y : List Bool = bits 8 (x / 2 ^ (n * 8)) in
    let ly : length y ≡ 8 = length-bits 8 (x / 2 ^ (n * 8)) in
    let cut : bits (suc n * 8) x ≡ y ++ bits (n * 8) x = ap (λ (k : ℕ). bits k x) e ∙ bits-add 8 (n * 8) x in
    ap (λ (r : List Bool). value (front 8 r) ∷ pack n (drop 8 r)) cut
    ∙ ap₂ (λ (r t : List Bool). value r ∷ pack n t)
    (front-take 8 (y ++ bits (n * 8) x) (omega (arith, length-append y (bits (n * 8) x))) ∙ take_at y (bits (n * 8) x) 8 ly) (drop_at y (bits (n * 8) x) 8 ly)
    ∙ ap₂ (λ (a : ℕ) (r : List ℕ). a ∷ r) (value_bits 8 (x / 2 ^ (n * 8))) (pack_spread n x)

-- at most eight bytes of bits, as the bytes of one number
spread_pack : (y : List Bool) (m : ℕ) → length y ≤ 64 → m ≤ 8 → take m (spread 8 (value y * 2 ^ (64 - length y))) ≡ pack m y
spread_pack y m h hm =
    ap (λ (n : ℕ). take m (spread 8 n)) (sym (value_front 64 y h))
    ∙ ap (take m) (sym (pack_spread 8 (value (front 64 y))) ∙ ap (pack 8) (bits_value (front 64 y) 64 (length_front 64 y)) ∙ pack_front 8 y)
    ∙ take-pack 8 m y hm

-- the first o bits of a byte are a shift
value_head : (b o : ℕ) → b < 256 → o ≤ 8 → value (take o (bits 8 b)) ≡ b / 2 ^ (8 - o)
value_head b o hb ho =
    let e : o + (8 - o) ≡ 8 = omega arith in
    value_slice (bits 8 b) 0 o 8 (length-bits 8 b) (omega arith)
    ∙ ap₂ (λ (x k : ℕ). x / 2 ^ (8 - k) % 2 ^ o) (value_bits_lt 8 b hb) (zero-add o)
    ∙ shr_mod o (8 - o) (subst (λ (k : ℕ). b < 2 ^ k) (sym e) hb)

-- a field of value v is put where byte b stands
module _ (l : List ℕ) (at w v b : ℕ) (ok : Bytes l) (fill : FieldFill l at w v) (is : b ≡ get_or l (at / 8) 0) where
  hb : b < 256
  hb = subst (λ (x : ℕ). x < 256) (sym is) (ok (at / 8))

  -- what the byte keeps, and the field, as the code has them
  abbrev head : ℕ
  head = b / 2 ^ (8 - at % 8) * 2 ^ (8 - at % 8) % 2 ^ 64

  abbrev field : ℕ
  field = v * 2 ^ (64 - (at % 8 + w)) % 2 ^ 64

  head_shl : head ≡ b / 2 ^ (8 - at % 8) * 2 ^ (8 - at % 8)
  head_shl = shl_exact 8 (8 - at % 8) 64 (lt_of_le_of_lt (shr_le b (8 - at % 8)) hb) (omega arith)

  field_shl : field ≡ v * 2 ^ (64 - (at % 8 + w))
  field_shl = shl_exact w (64 - (at % 8 + w)) 64 fill.small (omega (arith, fill.narrow))

  -- what the buffer's byte begins with, and the field
  abbrev ends : List Bool
  ends = take (at % 8) (bits 8 b) ++ bits w v

  length-ends : length ends ≡ at % 8 + w
  length-ends =
      length-append (take (at % 8) (bits 8 b)) (bits w v)
      ∙ ap₂ (λ (x y : ℕ). x + y) (length-take-le (at % 8) (bits 8 b) (omega (arith, length-bits 8 b))) (length-bits w v)

  value_ends : value ends ≡ b / 2 ^ (8 - at % 8) * 2 ^ w + v
  value_ends =
      value-append (take (at % 8) (bits 8 b)) (bits w v)
      ∙ ap₂ (λ (x k : ℕ). x * 2 ^ k + value (bits w v)) (value_head b (at % 8) hb (omega arith)) (length-bits w v)
      ∙ ap (λ (x : ℕ). b / 2 ^ (8 - at % 8) * 2 ^ w + x) (value_bits_lt w v fill.small)

  -- together they are the bits of both, shifted to the front of a word
  shifted : head * 2 ^ 56 + field ≡ value ends * 2 ^ (64 - length ends)
  shifted =
      let x : ℕ = b / 2 ^ (8 - at % 8) in
      let r : ℕ = 64 - (at % 8 + w) in
      let e : w + r ≡ 8 - at % 8 + 56 = omega (arith, fill.narrow) in
      let powers : 2 ^ w * 2 ^ r ≡ 2 ^ (8 - at % 8) * 2 ^ 56 = sym (pow-add 2 w r) ∙ ap (λ (k : ℕ). 2 ^ k) e ∙ pow-add 2 (8 - at % 8) 56 in
      let front : head * 2 ^ 56 ≡ x * 2 ^ w * 2 ^ r =
      ap (λ (k : ℕ). k * 2 ^ 56) head_shl ∙ mul_assoc x (2 ^ (8 - at % 8)) (2 ^ 56) ∙ ap (λ (k : ℕ). x * k) (sym powers) ∙ sym (mul_assoc x (2 ^ w) (2 ^ r)) in
      ap₂ (λ (k m : ℕ). k + m) front field_shl ∙ sym (add-mul (x * 2 ^ w) v (2 ^ r))
      ∙ ap₂ (λ (k m : ℕ). k * 2 ^ (64 - m)) (sym value_ends) (sym length-ends)

  whole : take at (bytes_bits l) ++ bits w v ≡ bytes_bits (take (at / 8) l) ++ ends
  whole =
      let i : ℕ = at / 8 in
      let o : ℕ = at % 8 in
      let h : i < length l = omega (arith, fill.within, fill.some) in
      let t : take o (bytes_bits (drop i l)) ≡ take o (bits 8 b) =
      ap (λ (r : List ℕ). take o (bytes_bits r)) (drop-cons l i 0 h)
      ∙ ap (take o) (bytes_bits-cons (get_or l i 0) (drop (suc i) l))
      ∙ take-append-le o (bits 8 (get_or l i 0)) (bytes_bits (drop (suc i) l)) (omega (arith, length-bits 8 (get_or l i 0)))
      ∙ ap (λ (x : ℕ). take o (bits 8 x)) (sym is) in
      ap (λ (n : ℕ). take n (bytes_bits l) ++ bits w v) (sym (div-add-mod' at 8))
      ∙ ap (λ (r : List Bool). r ++ bits w v)
      (take-add (i * 8) o (bytes_bits l) ∙ ap₂ (λ (x y : List Bool). x ++ take o y) (take-bytes_bits i l) (drop-bytes_bits i l)
      ∙ ap (λ (r : List Bool). bytes_bits (take i l) ++ r) t)
      ∙ append_assoc (bytes_bits (take i l)) (take o (bits 8 b)) (bits w v)

  pub put_stored : (new : List ℕ)
      → new ≡ laid (at / 8) (take ((at % 8 + w + 7) / 8) (spread 8 (head * 2 ^ 56 + field))) l
      → FieldStored l at w (bits w v) new (at + w)
  unfolding over laid
  put_stored new en =
      let i : ℕ = at / 8 in
      let m : ℕ = (at % 8 + w + 7) / 8 in
      let narrow : w ≤ widest_field = fill.narrow in
      let li : length (take i l) ≡ i = length-take-le i l (omega (arith, fill.within)) in
      let s : take m (spread 8 (head * 2 ^ 56 + field)) ≡ pack m ends =
      ap (λ (x : ℕ). take m (spread 8 x)) shifted ∙ spread_pack ends m (omega (arith, length-ends)) (omega arith) in
      let n : length (bytes_bits (take i l) ++ ends) ≡ at + w = length-append (bytes_bits (take i l)) ends
      ∙ omega (arith, length-bytes_bits (take i l), length-ends, li) in
      let k : i + m ≡ bytes_for (length (bytes_bits (take i l) ++ ends)) = sym (ap bytes_for n ∙ omega arith) in
      record {
        is =
            en
            ∙ ap (λ (r : List ℕ). take i l ++ (r ++ drop (i + length r) l)) s
            ∙ ap (λ (x : ℕ). take i l ++ (pack m ends ++ drop (i + x) l)) (length-pack m ends)
            ∙ sym (append_assoc (take i l) (pack m ends) (drop (i + m) l))
            ∙ ap (λ (r : List ℕ). r ++ drop (i + m) l) (sym (pack_onto (take i l) m ends (Bytes_take i l ok))
            ∙ ap (λ (x : ℕ). pack (x + m) (bytes_bits (take i l) ++ ends)) li)
            ∙ ap (λ (x : ℕ). pack (i + m) (bytes_bits (take i l) ++ ends) ++ drop x l) (sym (length-pack (i + m) (bytes_bits (take i l) ++ ends)))
            ∙ ap (λ (x : ℕ). over (pack x (bytes_bits (take i l) ++ ends)) l) k
            ∙ ap (λ (r : List Bool). filed r l) (sym whole);
        moved = refl;
      }
