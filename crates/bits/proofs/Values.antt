-- Bits and numbers are each other's inverse below 2 ^ w, bit by bit; the middle of a bit list is a shift and a remainder of its number.
use mathlib.Core.Path.{◌≡◌, refl, sym, ap, ap₂, ◌∙◌, subst}
use mathlib.Core.Bool.{Bool, true, false}
use mathlib.Core.List.{List, [], ◌∷◌, ◌++◌, append_assoc}
use Prim.Native.Nat.{ℕ, zero, suc, ◌+◌, ◌-◌, ◌*◌, ◌/◌, ◌%◌, ◌^◌, ◌≤◌, ◌<◌}
use native.Mathlib.Nat.{not-suc-le-zero, le_of_suc-le-suc, zero-lt-suc, mod-lt, mod-eq_of_lt, mod-one, add_assoc, add_comm, suc-add, mul_assoc, add-mul, zero-add, zero-mul}
use native.Mathlib.Numerals.{one-add}
use native.Mathlib.Omega.{arith}
use lib.ListN.{length, take, drop, replicate, length-append, length-drop, length-replicate, take-append-drop}
use lib.Seq.{length-take-le}
use lib.Dec.{eqb, lit<}
use lib.Arith.{digits_lt}
use lib.Pow.{pow-add, mod-pow-add, shr-shr, high, low}
use Rattle.bits.specs.Bits.{bit, odd, bits, value}

bit_eqb : (m : ℕ) → m < 2 → bit (eqb m 1) ≡ m
bit_eqb zero h = refl
bit_eqb (suc zero) h = refl
bit_eqb (suc (suc m)) h = absurd (not-suc-le-zero (le_of_suc-le-suc (le_of_suc-le-suc h)))

bit_odd : (n : ℕ) → bit (odd n) ≡ n % 2
bit_odd n = bit_eqb (n % 2) (mod-lt n (zero-lt-suc 1))

bit_lt : (b : Bool) → bit b < 2
bit_lt true = lit< tt
bit_lt false = lit< tt

bit_inj : (a b : Bool) → bit a ≡ bit b → a ≡ b
bit_inj true true e = refl
bit_inj true false e = absurd (omega arith)
bit_inj false true e = absurd (omega arith)
bit_inj false false e = refl

pub length-bits : (w x : ℕ) → length (bits w x) ≡ w
unfolding bits
length-bits zero x = refl
length-bits (suc w) x = ap suc (length-bits w x)

pub value_bits : (w x : ℕ) → value (bits w x) ≡ x % 2 ^ w
unfolding bits value
value_bits zero x = sym (mod-one x)
value_bits (suc w) x =
    ap₂ (λ (a l : ℕ). a * 2 ^ l + value (bits w x)) (bit_odd (x / 2 ^ w)) (length-bits w x)
    ∙ ap (λ (v : ℕ). x / 2 ^ w % 2 * 2 ^ w + v) (value_bits w x)
    ∙ sym (mod-pow-add x 1 w)
    ∙ ap (λ (k : ℕ). x % 2 ^ k) (one-add w)

pub value_bits_lt : (w x : ℕ) → x < 2 ^ w → value (bits w x) ≡ x
value_bits_lt w x h = value_bits w x ∙ mod-eq_of_lt h

pub value_lt : (b : List Bool) → value b < 2 ^ length b
unfolding value
value_lt [] = lit< tt
value_lt (b ∷ r) =
    subst (λ (k : ℕ). bit b * 2 ^ length r + value r < k) (sym (pow-add 2 1 (length r)) ∙ ap (λ (k : ℕ). 2 ^ k) (one-add (length r)))
    (digits_lt (bit_lt b) (value_lt r))

-- a list of bits is known by its length and its value
pub value_inj : (a b : List Bool) → length a ≡ length b → value a ≡ value b → a ≡ b
unfolding value
value_inj [] [] l e = refl
value_inj [] (y ∷ b) l e = absurd (omega arith)
value_inj (x ∷ a) [] l e = absurd (omega arith)
value_inj (x ∷ a) (y ∷ b) l e =
    let l' : length a ≡ length b = omega arith in
    let hb : value b < 2 ^ length a = subst (λ (k : ℕ). value b < 2 ^ k) (sym l') (value_lt b) in
    let e' : bit x * 2 ^ length a + value a ≡ bit y * 2 ^ length a + value b =
    e ∙ ap (λ (k : ℕ). bit y * 2 ^ k + value b) (sym l') in
    ap₂ (λ (h : Bool) (t : List Bool). h ∷ t)
    (bit_inj x y (sym (high (bit x) (length a) (value_lt a)) ∙ ap (λ (n : ℕ). n / 2 ^ length a) e' ∙ high (bit y) (length a) hb))
    (value_inj a b l' (sym (low (bit x) (length a) (value_lt a)) ∙ ap (λ (n : ℕ). n % 2 ^ length a) e' ∙ low (bit y) (length a) hb))

pub bits_value : (b : List Bool) (w : ℕ) → length b ≡ w → bits w (value b) ≡ b
bits_value b w l =
    value_inj (bits w (value b)) b (length-bits w (value b) ∙ sym l)
    (value_bits_lt w (value b) (subst (λ (k : ℕ). value b < 2 ^ k) l (value_lt b)))

-- a field of two widths is the high bits and then the low ones
pub bits-add : (a b x : ℕ) → bits (a + b) x ≡ bits a (x / 2 ^ b) ++ bits b x
unfolding bits
bits-add zero b x = ap (λ (k : ℕ). bits k x) (zero-add b)
bits-add (suc a) b x =
    ap (λ (k : ℕ). bits k x) (suc-add a b)
    ∙ ap₂ (λ (n : ℕ) (r : List Bool). odd n ∷ r) (ap (λ (k : ℕ). x / 2 ^ k) (add_comm a b) ∙ sym (shr-shr x b a)) (bits-add a b x)

-- so two numbers, one shifted before the other, are a field of twice the width
pub bits_two : (w a b : ℕ) → b < 2 ^ w → bits (2 * w) (a * 2 ^ w + b) ≡ bits w a ++ bits w b
bits_two w a b h =
    let x : ℕ = a * 2 ^ w + b in
    let e : 2 * w ≡ w + w = omega arith in
    ap (λ (k : ℕ). bits k x) e ∙ bits-add w w x
    ∙ ap₂ (λ (y : ℕ) (r : List Bool). bits w y ++ r) (high a w h)
    (value_inj (bits w x) (bits w b) (length-bits w x ∙ sym (length-bits w b)) (value_bits w x ∙ low a w h ∙ sym (value_bits_lt w b h)))

pub value-append : (a b : List Bool) → value (a ++ b) ≡ value a * 2 ^ length b + value b
unfolding value
value-append [] b = sym (ap (λ (k : ℕ). k + value b) (zero-mul (2 ^ length b)) ∙ zero-add (value b))
value-append (x ∷ a) b =
    ap₂ (λ (k v : ℕ). bit x * 2 ^ k + v) (length-append a b) (value-append a b)
    ∙ ap (λ (k : ℕ). bit x * k + (value a * 2 ^ length b + value b)) (pow-add 2 (length a) (length b))
    ∙ ap (λ (k : ℕ). k + (value a * 2 ^ length b + value b)) (sym (mul_assoc (bit x) (2 ^ length a) (2 ^ length b)))
    ∙ sym (add_assoc (bit x * 2 ^ length a * 2 ^ length b) (value a * 2 ^ length b) (value b))
    ∙ ap (λ (k : ℕ). k + value b) (sym (add-mul (bit x * 2 ^ length a) (value a) (2 ^ length b)))

-- the middle of a list of bits, out of the number that the list spells
value_mid : (a b c : List Bool) → value (a ++ (b ++ c)) / 2 ^ length c % 2 ^ length b ≡ value b
value_mid a b c =
    ap (λ (l : List Bool). value l / 2 ^ length c % 2 ^ length b) (sym (append_assoc a b c))
    ∙ ap (λ (n : ℕ). n / 2 ^ length c % 2 ^ length b) (value-append (a ++ b) c)
    ∙ ap (λ (n : ℕ). n % 2 ^ length b) (high (value (a ++ b)) (length c) (value_lt c))
    ∙ ap (λ (n : ℕ). n % 2 ^ length b) (value-append a b)
    ∙ low (value a) (length b) (value_lt b)

-- the same, of w bits from o on
pub value_slice : (x : List Bool) (o w n : ℕ) → length x ≡ n → o + w ≤ n → value (take w (drop o x)) ≡ value x / 2 ^ (n - (o + w)) % 2 ^ w
value_slice x o w n l h =
    let b : List Bool = take w (drop o x) in
    let c : List Bool = drop w (drop o x) in
    let lb : length b ≡ w = length-take-le w (drop o x) (simp length-drop (omega arith)) in
    let lc : length c ≡ n - (o + w) = simp length-drop (omega arith) in
    let e : take o x ++ (b ++ c) ≡ x = ap (λ (r : List Bool). take o x ++ r) (take-append-drop w (drop o x)) ∙ take-append-drop o x in
    sym (value_mid (take o x) b c)
    ∙ ap (λ (r : List Bool). value r / 2 ^ length c % 2 ^ length b) e
    ∙ ap₂ (λ (i j : ℕ). value x / 2 ^ i % 2 ^ j) lc lb

-- zero bits spell 0, and nothing else does
pub value_zeros : (k : ℕ) → value (replicate k false) ≡ 0
unfolding value
value_zeros zero = refl
value_zeros (suc k) = ap (λ (v : ℕ). 0 * 2 ^ length (replicate k false) + v) (value_zeros k) ∙ omega (arith, zero-mul (2 ^ length (replicate k false)))

pub zeros : (b : List Bool) → value b ≡ 0 → b ≡ replicate (length b) false
zeros b e = value_inj b (replicate (length b) false) (sym (length-replicate (length b) false)) (e ∙ sym (value_zeros (length b)))
