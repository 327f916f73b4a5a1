-- Numbers one over the other have a digit 0 exactly where all have, and as many digits as the largest: bit by bit.
use mathlib.Core.Path.{◌≡◌, ap, ap₂, ◌∙◌}
use Prim.Native.Nat.{ℕ, zero, suc, ◌+◌, ◌*◌, ◌%◌, ◌^◌, ◌≤◌, ◌<◌}
use native.Mathlib.Nat.{le_refl, le_antisymm, lt_of_le_of_lt}
use native.Mathlib.Numerals.{add-one}
use native.Mathlib.Omega.{arith}
use lib.Bits.{bit_or, or_add_and, and_le_l, and_le_r, or_lt, or_shr, or_mod}
use lib.Pow.{pow_pos}
use Rattle.digits.specs.Digits.{digit_count, digit}
use Rattle.digits.specs.Range.{sum_to, max_to, or_to, sign}
use Rattle.digits.proofs.Range.{sign_mono, sign-add}
use Rattle.digits.proofs.Count.{count_own, low_count}
use Rattle.digits.proofs.Vector.{digit_zero}

-- two numbers
or_first : (a b : ℕ) → a ≤ bit_or a b
or_first a b = omega (arith, or_add_and a b, and_le_r a b)

or_second : (a b : ℕ) → b ≤ bit_or a b
or_second a b = omega (arith, or_add_and a b, and_le_l a b)

or_sign : (a b : ℕ) → sign (bit_or a b) ≡ sign (a + b)
or_sign a b =
    let some = sign_mono (bit_or a b) (a + b) (omega (arith, or_add_and a b)) in
    let first = sign_mono a (bit_or a b) (or_first a b) in
    let second = sign_mono b (bit_or a b) (or_second a b) in
    omega (arith, sign-add a b)

or_digit : (k a b j : ℕ) → digit k (bit_or a b) j ≡ bit_or (digit k a j) (digit k b j)
or_digit k a b j = ap (λ (x : ℕ). x % 2 ^ k) (or_shr a b (k * j)) ∙ or_mod _ _ k

-- one number more, as a loop takes it
pub or_on : (f : ℕ → ℕ) (n s x : ℕ) → x ≡ f n → s ≡ or_to n f → bit_or s x ≡ or_to (n + 1) f
or_on f n s x is e = rw (add-one n) (ap₂ bit_or e is)

-- a digit is 0 exactly where the sum of that digit of each is
pub or_digits : (k j n : ℕ) (f : ℕ → ℕ) → sign (digit k (or_to n f) j) ≡ sign (sum_to n (λ i. digit k (f i) j))
or_digits k j zero f = ap sign (digit_zero k j)
or_digits k j (suc n) f =
    let a : ℕ = digit k (or_to n f) j in
    let b : ℕ = digit k (f n) j in
    let s : ℕ = sum_to n (λ i. digit k (f i) j) in
    ap sign (or_digit k (or_to n f) (f n) j) ∙ or_sign a b ∙ omega (arith, sign-add a b, sign-add s b, or_digits k j n f)

-- they are below a power of two exactly if the largest is
or_low : (m n : ℕ) (f : ℕ → ℕ) → max_to n f < 2 ^ m → or_to n f < 2 ^ m
or_low m zero f h = pow_pos m
or_low m (suc n) f h = or_lt m (or_to n f) (f n) (or_low m n f (omega arith)) (omega arith)

max_or : (n : ℕ) (f : ℕ → ℕ) → max_to n f ≤ or_to n f
max_or zero f = le_refl 0
max_or (suc n) f = omega (arith, max_or n f, or_first (or_to n f) (f n), or_second (or_to n f) (f n))

pub or_count : (k n : ℕ) (f : ℕ → ℕ) → 0 < k → digit_count k (or_to n f) ≡ digit_count k (max_to n f)
or_count k n f some =
    le_antisymm (low_count k some (or_to n f) (digit_count k (max_to n f)) (or_low (k * digit_count k (max_to n f)) n f (count_own k some (max_to n f))))
    (low_count k some (max_to n f) (digit_count k (or_to n f)) (lt_of_le_of_lt (max_or n f) (count_own k some (or_to n f))))
