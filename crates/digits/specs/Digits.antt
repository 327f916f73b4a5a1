-- Digits in base 2^k and bit lengths (Spec 3.3).
use Rattle.std.specs.Prelude.{ℕ, zero, suc, ◌*◌, ◌/◌, ◌%◌, ◌^◌}

-- the digits of x, counted off one by one, as far as the first argument allows
abbrev pub digits_in : ℕ → ℕ → ℕ → ℕ
digits_in zero k x = 0
digits_in (suc f) k zero = 0
digits_in (suc f) k (suc x) = suc (digits_in f k (suc x / 2 ^ k))

-- Spec 3.3: how many digits x has; 0 has none. A number has at most as many digits as units.
unfoldable pub digit_count : ℕ → ℕ → ℕ
digit_count k x = digits_in x k x

-- Spec 3.3: the digits in base 2
unfoldable pub bit_length : ℕ → ℕ
unfolding digit_count
bit_length x = digit_count 1 x

-- Spec 3.3: digit j of x, the one with weight 2^(kj)
abbrev pub digit : ℕ → ℕ → ℕ → ℕ
digit k x j = x / 2 ^ (k * j) % 2 ^ k
