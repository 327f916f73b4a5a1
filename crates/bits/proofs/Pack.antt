-- Packing is undone by taking the bytes' bits: filling up on the right is a shift, and whole bytes in front stay as they are.
use mathlib.Core.Path.{◌≡◌, refl, sym, ap, ap₂, ◌∙◌, subst}
use mathlib.Core.Bool.{Bool, false}
use mathlib.Core.List.{List, [], ◌∷◌, ◌++◌, append_assoc, append-nil}
use Prim.Native.Nat.{ℕ, zero, suc, ◌+◌, ◌-◌, ◌*◌, ◌^◌, ◌≤◌, ◌<◌}
use native.Mathlib.Nat.{zero-mul, zero-add, suc-mul, suc-add, add-zero}
use native.Mathlib.Omega.{arith}
use lib.ListN.{length, take, drop, get_or, replicate, length-replicate, take-append-drop}
use lib.Seq.{length-take-le, drop-nil, drop-drop, take_at, drop_at}
use lib.Dec.{lit<}
use Rattle.bits.specs.Bits.{bits, value, bytes_bits, front, pack}
use Rattle.bits.proofs.Values.{length-bits, value_bits_lt, value_lt, bits_value, value-append, value_zeros}
use Rattle.bits.proofs.Fields.{bytes_bits-cons, bytes_bits-nil}

-- each is a byte
abbrev pub Bytes : List ℕ → Type 0
Bytes l = (k : ℕ) → get_or l k 0 < 256

pub length_front : (n : ℕ) (b : List Bool) → length (front n b) ≡ n
unfolding front
length_front zero b = refl
length_front (suc n) [] = ap suc (length_front n [])
length_front (suc n) (x ∷ b) = ap suc (length_front n b)

front_none : (k : ℕ) → front k [] ≡ replicate k false
unfolding front
front_none zero = refl
front_none (suc k) = ap (λ (r : List Bool). false ∷ r) (front_none k)

pub front_pad : (b : List Bool) (k : ℕ) → front (length b + k) b ≡ b ++ replicate k false
unfolding front
front_pad [] k = ap (λ (n : ℕ). front n []) (zero-add k) ∙ front_none k
front_pad (x ∷ b) k = ap (λ (n : ℕ). front n (x ∷ b)) (suc-add (length b) k) ∙ ap (λ (r : List Bool). x ∷ r) (front_pad b k)

front_seam : (x y : List Bool) → front (length x) (x ++ y) ≡ x
unfolding front
front_seam [] y = refl
front_seam (b ∷ x) y = ap (λ (r : List Bool). b ∷ r) (front_seam x y)

pub front-take : (n : ℕ) (b : List Bool) → n ≤ length b → front n b ≡ take n b
front-take n b h =
    ap (front n) (sym (take-append-drop n b)) ∙ ap (λ (m : ℕ). front m (take n b ++ drop n b)) (sym (length-take-le n b h)) ∙ front_seam (take n b) (drop n b)

front-add : (n m : ℕ) (b : List Bool) → front (n + m) b ≡ front n b ++ front m (drop n b)
unfolding front
front-add zero m b = ap (λ (k : ℕ). front k b) (zero-add m)
front-add (suc n) m [] =
    ap (λ (k : ℕ). front k []) (suc-add n m) ∙ ap (λ (r : List Bool). false ∷ r) (front-add n m [])
    ∙ ap (λ (r : List Bool). false ∷ (front n [] ++ front m r)) (drop-nil n)
front-add (suc n) m (x ∷ b) = ap (λ (k : ℕ). front k (x ∷ b)) (suc-add n m) ∙ ap (λ (r : List Bool). x ∷ r) (front-add n m b)

-- filling up on the right is a shift
pub value_front : (n : ℕ) (b : List Bool) → length b ≤ n → value (front n b) ≡ value b * 2 ^ (n - length b)
value_front n b h =
    let k : ℕ = n - length b in
    let e : length b + k ≡ n = omega arith in
    ap (λ (m : ℕ). value (front m b)) (sym e) ∙ ap value (front_pad b k) ∙ value-append b (replicate k false)
    ∙ ap₂ (λ (m v : ℕ). value b * 2 ^ m + v) (length-replicate k false) (value_zeros k) ∙ add-zero (value b * 2 ^ k)

pub length-pack : (n : ℕ) (b : List Bool) → length (pack n b) ≡ n
unfolding pack
length-pack zero b = refl
length-pack (suc n) b = ap suc (length-pack n (drop 8 b))

pub bytes_bits_pack : (n : ℕ) (b : List Bool) → bytes_bits (pack n b) ≡ front (n * 8) b
unfolding pack
bytes_bits_pack zero b = bytes_bits-nil ∙ sym (ap (λ (k : ℕ). front k b) (zero-mul 8) ∙ none)
  where
    none : front 0 b ≡ []
    none = front_seam [] b
bytes_bits_pack (suc n) b =
    let e : 8 + n * 8 ≡ suc n * 8 = omega (arith, suc-mul n 8) in
    bytes_bits-cons (value (front 8 b)) (pack n (drop 8 b))
    ∙ ap₂ (λ (x y : List Bool). x ++ y) (bits_value (front 8 b) 8 (length_front 8 b)) (bytes_bits_pack n (drop 8 b))
    ∙ sym (front-add 8 (n * 8) b) ∙ ap (λ (k : ℕ). front k b) e

front_byte : (x : ℕ) (r : List Bool) → front 8 (bits 8 x ++ r) ≡ bits 8 x
front_byte x r = ap (λ (n : ℕ). front n (bits 8 x ++ r)) (sym (length-bits 8 x)) ∙ front_seam (bits 8 x) r

pack_byte : (x n : ℕ) (r : List Bool) → x < 256 → pack (suc n) (bits 8 x ++ r) ≡ x ∷ pack n r
unfolding pack
pack_byte x n r h =
    ap₂ (λ (v d : List Bool). value v ∷ pack n d) (front_byte x r) (drop_at (bits 8 x) r 8 (length-bits 8 x))
    ∙ ap (λ (v : ℕ). v ∷ pack n r) (value_bits_lt 8 x h)

-- whole bytes in front
pub pack_onto : (l : List ℕ) (m : ℕ) (y : List Bool) → Bytes l → pack (length l + m) (bytes_bits l ++ y) ≡ l ++ pack m y
pack_onto [] m y ok = ap₂ (λ (n : ℕ) (b : List Bool). pack n (b ++ y)) (zero-add m) bytes_bits-nil
pack_onto (b ∷ l) m y ok =
    ap₂ pack (suc-add (length l) m) (ap (λ (x : List Bool). x ++ y) (bytes_bits-cons b l) ∙ append_assoc (bits 8 b) (bytes_bits l) y)
    ∙ pack_byte b (length l + m) (bytes_bits l ++ y) (ok 0)
    ∙ ap (λ (r : List ℕ). b ∷ r) (pack_onto l m y (λ k. ok (suc k)))

pub pack_bytes_bits : (l : List ℕ) → Bytes l → pack (length l) (bytes_bits l) ≡ l
unfolding pack
pack_bytes_bits l ok =
    ap₂ pack (sym (add-zero (length l))) (sym (append-nil (bytes_bits l))) ∙ pack_onto l 0 [] ok ∙ append-nil l

pack-add : (n m : ℕ) (b : List Bool) → pack (n + m) b ≡ pack n b ++ pack m (drop (n * 8) b)
unfolding pack
pack-add zero m b = ap₂ pack (zero-add m) (sym (ap (λ (k : ℕ). drop k b) (zero-mul 8)))
pack-add (suc n) m b =
    let e : 8 + n * 8 ≡ suc n * 8 = omega (arith, suc-mul n 8) in
    ap (λ (k : ℕ). pack k b) (suc-add n m)
    ∙ ap (λ (r : List ℕ). value (front 8 b) ∷ r) (pack-add n m (drop 8 b))
    ∙ ap (λ (r : List Bool). value (front 8 b) ∷ (pack n (drop 8 b) ++ pack m r)) (drop-drop (n * 8) 8 b ∙ ap (λ (k : ℕ). drop k b) e)

pub take-pack : (n m : ℕ) (b : List Bool) → m ≤ n → take m (pack n b) ≡ pack m b
take-pack n m b h =
    let e : m + (n - m) ≡ n = omega arith in
    ap (λ (k : ℕ). take m (pack k b)) (sym e) ∙ ap (take m) (pack-add m (n - m) b)
    ∙ take_at (pack m b) (pack (n - m) (drop (m * 8) b)) m (length-pack m b)

pub Bytes_take : (i : ℕ) (l : List ℕ) → Bytes l → Bytes (take i l)
Bytes_take zero l ok k = lit< tt
Bytes_take (suc i) [] ok k = lit< tt
Bytes_take (suc i) (x ∷ l) ok zero = ok 0
Bytes_take (suc i) (x ∷ l) ok (suc k) = Bytes_take i l (λ n. ok (suc n)) k

pub Bytes_pack : (n : ℕ) (b : List Bool) → Bytes (pack n b)
unfolding pack
Bytes_pack zero b k = lit< tt
Bytes_pack (suc n) b zero = subst (λ (m : ℕ). value (front 8 b) < 2 ^ m) (length_front 8 b) (value_lt (front 8 b))
Bytes_pack (suc n) b (suc k) = Bytes_pack n (drop 8 b) k

pub pack_front : (n : ℕ) (b : List Bool) → pack n (front (n * 8) b) ≡ pack n b
pack_front n b =
    ap₂ pack (sym (length-pack n b)) (sym (bytes_bits_pack n b)) ∙ pack_bytes_bits (pack n b) (Bytes_pack n b)
