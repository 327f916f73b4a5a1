-- A word's digits are counted by its leading zeros: the bits below them, cut into digits and rounded up.
use mathlib.Core.Path.{◌≡◌}
use Prim.Native.Nat.{ℕ, zero, suc, ◌+◌, ◌-◌, ◌*◌, ◌^◌, ◌≤◌, ◌<◌}
use native.Mathlib.Nat.{mul_comm, pow-suc, mul-suc, mul-le-mul_left, lt_of_lt_of_le, le_antisymm}
use native.Mathlib.Decide.{dec_lt}
use native.Mathlib.Omega.{arith}
use lib.Count.{count_leading_zeros, leading_length}
use lib.Pow.{pow_mono}
use Rattle.std.specs.Int.{div_ceil}
use Rattle.std.proofs.lemmas.Grind.{div_ceil_times}
use Rattle.digits.specs.Digits.{digit_count}
use Rattle.digits.proofs.Count.{count_own, low_count, count_high}

-- the digits of a number of m bits
count_bits : (k x m : ℕ) → 0 < k → x < 2 ^ m → 2 ^ m ≤ 2 * x + 1 → div_ceil m k ≡ digit_count k x
count_bits k x m some low high = le_antisymm (by_count (dec_lt (digit_count k x) c)) above
  where
    c : ℕ
    c = div_ceil m k

    above : digit_count k x ≤ c
    above =
        let covers : m ≤ k * c = omega (arith, (div_ceil_times m k some).0, mul_comm c k) in
        low_count k some x c (lt_of_lt_of_le low (pow_mono covers))

    by_count : Dec (digit_count k x < c) → c ≤ digit_count k x
    by_count (no ge) = omega arith
    by_count (yes lt) = absurd (apart m low high fewer)
      where
        fewer : k * digit_count k x < m
        fewer =
            let up : k * suc (digit_count k x) ≤ k * c = mul-le-mul_left k lt in
            omega (arith, (div_ceil_times m k some).1, mul_comm c k, mul-suc k (digit_count k x))

        apart : (m : ℕ) → x < 2 ^ m → 2 ^ m ≤ 2 * x + 1 → k * digit_count k x < m → ⊥
        apart zero low high h = omega arith
        apart (suc m) low high h =
            let own = count_own k some x in
            let most : 2 ^ (k * digit_count k x) ≤ 2 ^ m = pow_mono (omega arith) in
            omega (arith, pow-suc 2 m)

pub count_word : (k x : ℕ) → 0 < k → x < 2 ^ 32 → div_ceil (32 - count_leading_zeros 32 x) k ≡ digit_count k x
count_word k x some h =
    let t = leading_length 32 x h in
    let bits : 32 - count_leading_zeros 32 x ≡ t.0 = omega (arith, t.1) in
    rw bits (count_bits k x t.0 some t.2 t.3)

-- its bits are its digits in base 2
pub count_ones : (k x : ℕ) → k ≡ 1 → x < 2 ^ 32 → 32 - count_leading_zeros 32 x ≡ digit_count k x
count_ones k x one h = rw one (omega (arith, count_word 1 x (omega arith) h))

-- a digit of a word is within it
pub digit_place : (k x j : ℕ) → 0 < k → x < 2 ^ 32 → j < digit_count k x → k * j < 32
digit_place k x j some h g = by_size (dec_lt (k * j) 32)
  where
    by_size : Dec (k * j < 32) → k * j < 32
    by_size (yes lt) = lt
    by_size (no ge) =
        let most : 2 ^ 32 ≤ 2 ^ (k * j) = pow_mono {i = 32} {j = k * j} (omega arith) in
        absurd (omega (arith, count_high k some x j g))
