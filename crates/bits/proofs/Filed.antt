-- A buffer is thought of as all bits written so far, filled up: writing more replaces that by a longer one, and each field is read back from the bits it was written as.
use mathlib.Core.Path.{◌≡◌, refl, sym, ap, ap₂, ◌∙◌}
use mathlib.Core.Bool.{Bool, false}
use mathlib.Core.List.{List, [], ◌∷◌, ◌++◌, append_assoc}
use Prim.Native.Nat.{ℕ, suc, ◌+◌, ◌-◌, ◌*◌, ◌^◌, ◌≤◌, ◌<◌}
use native.Mathlib.Omega.{arith}
use lib.ListN.{length, take, drop, get_or, replicate, length-append, length-drop, length-replicate, take-append-drop}
use lib.Seq.{length-take-le, take_all, take-append_seam, take-take, take_at, drop_at}
use Rattle.chain.specs.Written.{over}
use Rattle.chain.proofs.Written.{over_over}
use Rattle.bits.specs.Bits.{bits, fields, value, bytes_bits, front, pack, bytes_for, field_at, fields_at}
use Rattle.bits.specs.Inner.{filed, FieldStored}
use Rattle.bits.proofs.Parts.{drop-take}
use Rattle.bits.proofs.Values.{length-bits, value_bits_lt, value_zeros, zeros}
use Rattle.bits.proofs.Fields.{length-bytes_bits, bytes_bits-append}
use Rattle.bits.proofs.Pack.{Bytes, front_pad, length-pack, bytes_bits_pack, pack_bytes_bits, pack_front}

-- the bits come back, then their filling, then what follows
filed_rest : (b : List Bool) (old : List ℕ) (k : ℕ) → k ≡ bytes_for (length b)
    → bytes_bits (filed b old) ≡ b ++ (replicate (k * 8 - length b) false ++ bytes_bits (drop k old))
unfolding over
filed_rest b old k ek =
    let e : length b + (k * 8 - length b) ≡ k * 8 = omega arith in
    ap (λ (n : ℕ). bytes_bits (pack n b ++ drop (length (pack n b)) old)) (sym ek)
    ∙ ap (λ (n : ℕ). bytes_bits (pack k b ++ drop n old)) (length-pack k b)
    ∙ bytes_bits-append (pack k b) (drop k old)
    ∙ ap (λ (r : List Bool). r ++ bytes_bits (drop k old)) (bytes_bits_pack k b ∙ ap (λ (m : ℕ). front m b) (sym e) ∙ front_pad b (k * 8 - length b))
    ∙ append_assoc b (replicate (k * 8 - length b) false) (bytes_bits (drop k old))

pub filed_bits : (b : List Bool) (old : List ℕ) → take (length b) (bytes_bits (filed b old)) ≡ b
filed_bits b old = ap (take (length b)) (filed_rest b old (bytes_for (length b)) refl) ∙ take-append_seam b _

-- of two that are written, the later and longer one stays
pub filed_filed : (b c : List Bool) (old : List ℕ) → length b ≤ length c → filed c (filed b old) ≡ filed c old
filed_filed b c old h =
    over_over _ _ old (omega (arith, length-pack (bytes_for (length b)) b, length-pack (bytes_for (length c)) c))

-- bits more, after those that the buffer has so far
pub filed_more : (b more : List Bool) (old : List ℕ) (at : ℕ) → length b ≡ at
    → filed (take at (bytes_bits (filed b old)) ++ more) (filed b old) ≡ filed (b ++ more) old
filed_more b more old at lb =
    ap (λ (r : List Bool). filed (r ++ more) (filed b old)) (ap (λ (k : ℕ). take k (bytes_bits (filed b old))) (sym lb) ∙ filed_bits b old)
    ∙ filed_filed b (b ++ more) old (omega (arith, length-append b more))

pub put_next : (b more : List Bool) (old now new : List ℕ) (at w next : ℕ) → length b ≡ at → now ≡ filed b old → FieldStored now at w more new next
    → new ≡ filed (b ++ more) old
put_next b more old now new at w next lb em s =
    s.is ∙ ap (λ (r : List ℕ). filed (take at (bytes_bits r) ++ more) r) em ∙ filed_more b more old at lb

-- a field of what was written is one of its bits
pub field_filed : (b : List Bool) (old : List ℕ) (at w : ℕ) → at + w ≤ length b → field_at (filed b old) at w ≡ value (take w (drop at b))
field_filed b old at w h =
    ap value
    (drop-take at w (bytes_bits (filed b old))
    ∙ ap (drop at) (sym (take-take (at + w) (length b) (bytes_bits (filed b old)) h) ∙ ap (take (at + w)) (filed_bits b old))
    ∙ sym (drop-take at w b))

-- what was written as a field after the bits a is read there
pub field_back : (w x : ℕ) (a c : List Bool) (old : List ℕ) → x < 2 ^ w → field_at (filed (a ++ (bits w x ++ c)) old) (length a) w ≡ x
field_back w x a c old h =
    let b : List Bool = a ++ (bits w x ++ c) in
    let long : length a + w ≤ length b = omega (arith, length-append a (bits w x ++ c), length-append (bits w x) c, length-bits w x) in
    field_filed b old (length a) w long
    ∙ ap (λ (t : List Bool). value (take w t)) (drop_at a (bits w x ++ c) (length a) refl)
    ∙ ap value (take_at (bits w x) c w (length-bits w x))
    ∙ value_bits_lt w x h

-- and so is a list of fields
pub fields_back : (xs : List ℕ) (w : ℕ) (a c : List Bool) (old : List ℕ) → ((k : ℕ) → get_or xs k 0 < 2 ^ w)
    → fields_at (filed (a ++ (fields w xs ++ c)) old) (length a) w (length xs) ≡ xs
unfolding fields fields_at
fields_back [] w a c old ok = refl
fields_back (x ∷ xs) w a c old ok =
    let r : a ++ ((bits w x ++ fields w xs) ++ c) ≡ a ++ (bits w x ++ (fields w xs ++ c)) = ap (λ (t : List Bool). a ++ t)
    (append_assoc (bits w x) (fields w xs) c) in
    let la : length (a ++ bits w x) ≡ length a + w = length-append a (bits w x) ∙ ap (λ (n : ℕ). length a + n) (length-bits w x) in
    ap₂ (λ (y : ℕ) (ys : List ℕ). y ∷ ys)
    (ap (λ (t : List Bool). field_at (filed t old) (length a) w) r ∙ field_back w x a (fields w xs ++ c) old (ok 0))
    (ap₂ (λ (t : List Bool) (n : ℕ). fields_at (filed t old) n w (length xs)) (r ∙ sym (append_assoc a (bits w x) (fields w xs ++ c))) (sym la)
    ∙ fields_back xs w (a ++ bits w x) c old (λ k. ok (suc k)))

-- the filling is zero
pub filling_zero : (b : List Bool) (old : List ℕ) (n k : ℕ) → length b ≡ n → k ≡ 8 * bytes_for n - n → field_at (filed b old) n k ≡ 0
filling_zero b old n k en ek =
    let m : ℕ = bytes_for (length b) * 8 - length b in
    let e : k ≡ m = omega arith in
    ap₂ (λ (i j : ℕ). value (take j (drop i (bytes_bits (filed b old))))) (sym en) e
    ∙ ap (λ (r : List Bool). value (take m (drop (length b) r))) (filed_rest b old (bytes_for (length b)) refl)
    ∙ ap (λ (r : List Bool). value (take m r)) (drop_at b _ (length b) refl)
    ∙ ap value (take_at (replicate m false) _ m (length-replicate m false)) ∙ value_zeros m

-- if the filling bits of a file are zero, the file is the bits before them, filled up
pub filled : (file : List ℕ) (n k : ℕ) → Bytes file → length file ≡ bytes_for n → k ≡ 8 * length file - n
    → field_at file n k ≡ 0 → file ≡ pack (length file) (take n (bytes_bits file))
filled file n k ok e ek z =
    let x : List Bool = bytes_bits file in
    let lx : length x ≡ length file * 8 = length-bytes_bits file in
    let ld : length (drop n x) ≡ k = omega (arith, length-drop n x) in
    let lt : length (take n x) ≡ n = length-take-le n x (omega arith) in
    let all : take k (drop n x) ≡ drop n x = take_all k (drop n x) (omega arith) in
    let zs : drop n x ≡ replicate k false = sym all ∙ zeros (take k (drop n x)) z ∙ ap (λ (m : ℕ). replicate m false) (ap length all ∙ ld) in
    let s : length (take n x) + k ≡ length file * 8 = omega arith in
    sym (pack_bytes_bits file ok)
    ∙ ap (pack (length file))
    (sym (take-append-drop n x) ∙ ap (λ (r : List Bool). take n x ++ r) zs ∙ sym (front_pad (take n x) k) ∙ ap (λ (m : ℕ). front m (take n x)) s)
    ∙ pack_front (length file) (take n x)
