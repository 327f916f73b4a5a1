-- The law of digit counts: a number has at most c digits in base 2^k exactly if it is below 2^(kc). All else follows from it.
use mathlib.Core.Path.{◌≡◌, refl, subst}
use Prim.Native.Nat.{ℕ, zero, suc, ◌-◌, ◌*◌, ◌/◌, ◌^◌, ◌≤◌, ◌<◌, zero-le, suc-le-suc}
use native.Mathlib.Nat.{add_comm, mul-suc, mul-zero, one-mul, pow-zero, le_refl, mul-lt-mul_of_pos_left, mod-eq_of_lt, div-lt_self, div-lt_iff_lt-mul, le-div_iff_mul-le}
use native.Mathlib.Decide.{dec_lt, dec_le}
use native.Mathlib.Omega.{arith}
use lib.Pow.{pow-add, pow_pos, pow-lt}
use Rattle.digits.specs.Digits.{digits_in, digit_count, bit_length, digit}

module _ (k : ℕ) (some : 0 < k) where
  -- a number over the base is smaller
  smaller : (x : ℕ) → suc x / 2 ^ k < suc x
  smaller x = div-lt_self (omega arith) (pow-lt some)

  in_low : (f x c : ℕ) → x ≤ f → digits_in f k x ≤ c → x < 2 ^ (k * c)
  in_low zero x c room h = subst (λ (n : ℕ). n < 2 ^ (k * c)) (omega arith) (pow_pos (k * c))
  in_low (suc f) zero c room h = pow_pos (k * c)
  in_low (suc f) (suc x) zero room h = absurd (omega arith)
  in_low (suc f) (suc x) (suc c) room h =
      let rest = in_low f (suc x / 2 ^ k) c (omega (arith, smaller x)) (omega arith) in
      rw (mul-suc, pow-add) ((div-lt_iff_lt-mul (pow_pos k)).0 rest)

  low_in : (f x c : ℕ) → x ≤ f → x < 2 ^ (k * c) → digits_in f k x ≤ c
  low_in zero x c room h = zero-le
  low_in (suc f) zero c room h = zero-le
  low_in (suc f) (suc x) zero room h = absurd (omega (arith, rw (mul-zero, pow-zero) at h))
  low_in (suc f) (suc x) (suc c) room h =
      let rest = low_in f (suc x / 2 ^ k) c (omega (arith, smaller x)) ((div-lt_iff_lt-mul (pow_pos k)).1 (rw (mul-suc, pow-add) at h)) in
      omega arith

  pub count_low : (x c : ℕ) → digit_count k x ≤ c → x < 2 ^ (k * c)
  unfolding digit_count
  count_low x c h = in_low x x c (le_refl x) h

  pub low_count : (x c : ℕ) → x < 2 ^ (k * c) → digit_count k x ≤ c
  unfolding digit_count
  low_count x c h = low_in x x c (le_refl x) h

  -- a number is below its own bound
  pub count_own : (x : ℕ) → x < 2 ^ (k * digit_count k x)
  count_own x = count_low x (digit_count k x) (le_refl (digit_count k x))

  -- a smaller number has no more digits
  pub count_mono : (x y : ℕ) → x ≤ y → digit_count k x ≤ digit_count k y
  count_mono x y h = low_count x (digit_count k y) (omega (arith, count_own y))

  pub weights_rise : (c d : ℕ) → c < d → 2 ^ (k * c) < 2 ^ (k * d)
  weights_rise c d h = pow-lt (mul-lt-mul_of_pos_left h some)

  -- a number with more than c digits is at least 2^(kc)
  pub count_high : (x c : ℕ) → c < digit_count k x → 2 ^ (k * c) ≤ x
  count_high x c h = by_size (dec_lt x (2 ^ (k * c)))
    where
      by_size : Dec (x < 2 ^ (k * c)) → 2 ^ (k * c) ≤ x
      by_size (yes lt) = absurd (omega (arith, low_count x c lt))
      by_size (no ge) = omega arith

  -- the last number below 2^(kc) has c digits
  pub count_full : (x c : ℕ) → suc x ≡ 2 ^ (k * c) → digit_count k x ≡ c
  count_full x c e = by_size (dec_lt (digit_count k x) c)
    where
      by_size : Dec (digit_count k x < c) → digit_count k x ≡ c
      by_size (no ge) = omega (arith, low_count x c (omega arith))
      by_size (yes lt) = absurd (omega (arith, count_own x, weights_rise (digit_count k x) c lt))

  -- the top digit is not 0
  pub top_digit : (x d : ℕ) → digit_count k x ≡ suc d → 0 < digit k x d
  top_digit x d e =
      let up : x < 2 ^ k * 2 ^ (k * d) = rw (← pow-add 2 k (k * d), add_comm k (k * d), ← mul-suc k d) (count_low x (suc d) (omega arith)) in
      let quotient : x / 2 ^ (k * d) < 2 ^ k = (div-lt_iff_lt-mul (pow_pos (k * d))).1 up in
      let one : 1 ≤ x / 2 ^ (k * d) = (le-div_iff_mul-le (pow_pos (k * d))).1 (omega (arith, count_high x d (omega arith))) in
      rw (mod-eq_of_lt quotient) one

-- 0 has no digit, any other number has one
pub count_zero : (k : ℕ) → digit_count k 0 ≡ 0
unfolding digit_count
count_zero k = refl

pub count_some : (k x : ℕ) → 0 < digit_count k (suc x)
unfolding digit_count
count_some k x = suc-le-suc zero-le

-- a number has no more digits than units
in_few : (f k x : ℕ) → digits_in f k x ≤ f
in_few zero k x = zero-le
in_few (suc f) k zero = zero-le
in_few (suc f) k (suc x) = suc-le-suc (in_few f k (suc x / 2 ^ k))

pub count_few : (k x : ℕ) → digit_count k x ≤ x
unfolding digit_count
count_few k x = in_few x k x

pub none_counted : (k x : ℕ) → digit_count k x ≡ 0 → x ≡ 0
none_counted k zero e = refl
none_counted k (suc x) e = absurd (omega (arith, count_some k x))

-- bit lengths
pub bits_low : (x n : ℕ) → bit_length x ≤ n → x < 2 ^ n
unfolding bit_length
bits_low x n h = rw one-mul at (count_low 1 (le_refl 1) x n h)

pub low_bits : (x n : ℕ) → x < 2 ^ n → bit_length x ≤ n
unfolding bit_length
low_bits x n h = low_count 1 (le_refl 1) x n (rw one-mul h)

-- a number from 2^(w - 1) to 2^w - 1 has w bits
pub bit-length-is : (w x : ℕ) → 0 < w → 2 ^ (w - 1) ≤ x → x < 2 ^ w → w ≡ bit_length x
bit-length-is w x pos lo hi = by_size (dec_le (bit_length x) (w - 1))
  where
    by_size : Dec (bit_length x ≤ w - 1) → w ≡ bit_length x
    by_size (yes few) = absurd (omega (arith, bits_low x (w - 1) few))
    by_size (no many) = omega (arith, low_bits x w hi)

pub bits_some : (x : ℕ) → 1 ≤ x → 1 ≤ bit_length x
bits_some x h = by_size (dec_le (bit_length x) 0)
  where
    by_size : Dec (bit_length x ≤ 0) → 1 ≤ bit_length x
    by_size (yes none) = absurd (omega (arith, bits_low x 0 none))
    by_size (no some) = omega arith
