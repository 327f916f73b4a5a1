-- A number divided by way of v, the largest with v * m below B: the quotient taken, z * v / B, is that of z by m or one less.
use Rattle.std.proofs.Common.{◌≡◌, ℕ, ◌+◌, ◌-◌, ◌*◌, ◌/◌, ◌%◌, ◌^◌, ◌<◌, ◌≤◌, sym, ap, ◌∙◌, ap₂, le_trans, le_of_eq, lt_of_le_of_lt, le_of_lt, mul-le-mul_right, mul_assoc, suc-mul, mul_comm, add-mul, lt_of_mul-lt-mul_right, mul-le-mul_left, mul-add, mul_right_comm, div-mul-le_self, le_of_mul-le-mul_right, arith}
use native.Mathlib.Nat.{lt-div-mul-add, mul-add-mod_self_left}
use Rattle.residue.specs.Inner.{TimesAsked}
use Rattle.residue.proofs.Width.{product_fits}

module _ (B m v z : ℕ) (below : v * m < B) (close : B ≤ v * m + m) (small : z < B) where
  abbrev quotient : ℕ
  quotient = z * v / B

  -- never too large: quotient * m * B ≤ z * v * m ≤ z * B
  pub not_over : quotient * m ≤ z
  not_over =
      le_of_mul-le-mul_right
      (le_trans (le_of_eq (mul_right_comm quotient m B))
      (le_trans (mul-le-mul_right m (div-mul-le_self (z * v) B))
      (le_trans (le_of_eq (mul_assoc z v m)) (mul-le-mul_left z (le_of_lt below)))))
      (omega arith)

  -- at most one too small: z * B ≤ z * v * m + z * m < (quotient + 1) * B * m + B * m
  pub nearly : z < quotient * m + (m + m)
  nearly = lt_of_mul-lt-mul_right B (omega (arith, lower, upper, last, grouped))
    where
      lower : z * B ≤ z * v * m + z * m
      lower = le_trans (mul-le-mul_left z close) (le_of_eq (mul-add z (v * m) m ∙ ap (λ (x : ℕ). x + z * m) (sym (mul_assoc z v m))))

      upper : z * v * m ≤ quotient * B * m + B * m
      upper = le_trans (mul-le-mul_right m (le_of_lt (lt-div-mul-add (omega arith)))) (le_of_eq (add-mul (quotient * B) B m))

      last : z * m + m ≤ B * m
      last = le_trans (le_of_eq (sym (suc-mul z m))) (mul-le-mul_right m small)

      grouped : (quotient * m + (m + m)) * B ≡ quotient * B * m + (B * m + B * m)
      grouped =
          add-mul (quotient * m) (m + m) B
          ∙ ap₂ ◌+◌ (mul_right_comm quotient m B) (add-mul m m B ∙ ap₂ ◌+◌ (mul_comm m B) (mul_comm m B))

-- what is left of z: less than m twice, with the residue of z
pub record LeftOver (m z left : ℕ) : Type 0 where
  pub low : left < m + m
  pub same : left % m ≡ z % m

-- some multiple of m taken off
take_off : (m z q : ℕ) → q * m ≤ z → z < q * m + (m + m) → LeftOver m z (z - q * m)
take_off m z q under near = record { low = short z (q * m) (m + m) under near; same = sym (mul-add-mod_self_left m q (z - q * m)) ∙ ap (λ (n : ℕ). n % m) whole }
  where
    short : (z a b : ℕ) → a ≤ z → z < a + b → z - a < b
    short z a b h k = omega arith

    again : (z a : ℕ) → a ≤ z → a + (z - a) ≡ z
    again z a h = omega arith

    whole : m * q + (z - q * m) ≡ z
    whole = ap (λ (n : ℕ). n + (z - q * m)) (mul_comm m q) ∙ again z (q * m) under

-- the code's numbers: x and y of 32 bits, v the inverse kept of m, and q the quotient taken of their product
pub record Taken (x y m v q : ℕ) : Type 0 where
  pub x_low : x < 2 ^ 32
  pub y_low : y < 2 ^ 32
  pub asked : TimesAsked m v
  pub taken : q ≡ x * y * v / 2 ^ 64

module _ {x y m v q : ℕ} (t : Taken x y m v q) where
  small : x * y < 2 ^ 64
  small = product_fits 32 t.x_low t.y_low

  below : v * m < 2 ^ 64
  below = rw t.asked.inverse_is (omega (arith, div-mul-le_self (2 ^ 64 - 1) m))

  close : 2 ^ 64 ≤ v * m + m
  close = rw t.asked.inverse_is (lt-div-mul-add {a = 2 ^ 64 - 1} t.asked.modulus)

  pub taken_under : q * m ≤ x * y
  taken_under = rw t.taken (not_over (2 ^ 64) m v (x * y) below close small)

  pub taken_fits : q * m < 2 ^ 64
  taken_fits = lt_of_le_of_lt taken_under small

  pub what_is_left : LeftOver m (x * y) (x * y - q * m)
  what_is_left = take_off m (x * y) q taken_under (rw t.taken (nearly (2 ^ 64) m v (x * y) below close small))
