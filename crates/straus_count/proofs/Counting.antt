-- A payslip's amounts laid one over the other have a zero digit exactly where the digit vector is zero: so its steps are counted from one number.
use mathlib.Core.Path.{◌≡◌, refl, sym, ap, ◌∙◌}
use mathlib.Core.List.{List}
use Prim.Native.Nat.{ℕ, zero, suc, ◌+◌, ◌-◌, ◌*◌, ◌^◌, ◌≤◌, ◌<◌}
use native.Mathlib.Nat.{mul-add, mul_comm, mul-one, pow-suc, mul-le-mul_left, mul-le-mul_right}
use native.Mathlib.Omega.{arith}
use lib.Pow.{pow_mono, pow_pos}
use Rattle.digits.specs.Digits.{digit, digit_count}
use Rattle.digits.specs.Range.{sum_to, sign}
use Rattle.digits.proofs.Range.{sum_on, sum-sign, sign_low, sign-mul, signs_low}
use Rattle.digits.proofs.Overlay.{or_digits}
use Rattle.sheet.specs.Sheet.{amount}
use Rattle.methods.specs.Inner.{QuoteOf}
use Rattle.straus.specs.Straus.{straus_digits, digit_vector, straus_payslip_count, straus_payslip_ceiling, straus_count, straus_ceiling, straus_method}
use Rattle.straus_count.specs.Inner.{straus_payslip_most}
use Rattle.straus.proofs.Overlaying.{overlaid_to, digits_told, digits_fit}

-- the digits below the top one: how many of their vectors are not zero, of the first n
abbrev pub signs_to : ℕ → List ℕ → ℕ → ℕ → ℕ → ℕ
signs_to p amounts k i n = sum_to n (λ j. sign (digit_vector p amounts k i j))

module _ (p : ℕ) (amounts : List ℕ) (k i : ℕ) where
  -- a vector is zero exactly where that digit of all amounts, one over the other, is
  overlaid_sign : (j x : ℕ) → x ≡ overlaid_to p amounts i p → sign (digit k x j) ≡ sign (digit_vector p amounts k i j)
  overlaid_sign j x is =
      ap (λ (y : ℕ). sign (digit k y j)) is ∙ or_digits k j p (amount p amounts i)
      ∙ sum-sign p _ _ (λ c h. sym (sign-mul (digit k (amount p amounts i c) j) (2 ^ (k * c)) (pow_pos (k * c))))

  pub signs_on : (n j x v r b : ℕ) → x ≡ overlaid_to p amounts i p → v ≡ digit k x j → r ≡ sign v → n ≡ b + signs_to p amounts k i j
      → n + r ≡ b + signs_to p amounts k i (j + 1)
  signs_on n j x v r b is digit-is told e =
      omega (arith, sum_on (λ m. sign (digit_vector p amounts k i m)) j (signs_to p amounts k i j) r (told ∙ ap sign digit-is ∙ overlaid_sign j x is) refl)

-- l digits lie below the top one
module _ (p : ℕ) (amounts : List ℕ) (k i l : ℕ) where
  pub lower_told : (x d : ℕ) → 0 < k → d ≡ digit_count k x → x ≡ overlaid_to p amounts i p → l ≡ d - 1 → l ≡ straus_digits p amounts k i - 1
  lower_told x d some digits is lower = lower ∙ ap (λ (n : ℕ). n - 1) (digits_told p amounts k i x d some digits is)

  pub lower_fits : (x d : ℕ) → 0 < k → x < 2 ^ 32 → d ≡ digit_count k x → l ≡ d - 1 → k * l < 32
  lower_fits x d some low digits lower = rw lower (digits_fit k x d some low digits)

  pub lower_place : (j : ℕ) → k * l < 32 → j < l → k * j < 32
  lower_place j room h =
      let le : j ≤ l = omega arith in
      omega (arith, mul-le-mul_left k le)

  pub squarings_fit : k * l < 32 → l * k < 32
  squarings_fit room = omega (arith, mul_comm k l)

  -- the squarings are below 32, and so are the other steps
  pub most_low : 0 < k → k * l < 32 → l * k + l ≤ straus_payslip_most
  most_low some room = omega (arith, mul_comm k l, mul-le-mul_right l some)

  pub most_fits : 0 < k → k * l < 32 → l * k + l < 64
  most_fits some room = omega (arith, most_low some room)

  pub most_told : l ≡ straus_digits p amounts k i - 1 → l * k + l ≡ straus_payslip_ceiling p amounts k i
  most_told e = rw (← e) (omega (arith, mul-add l k 1, mul-one l))

  pub cost_few : (n j : ℕ) → 0 < k → k * l < 32 → j ≤ l → n ≡ l * k + signs_to p amounts k i j → n ≤ straus_payslip_most
  cost_few n j some room h e = omega (arith, most_low some room, signs_low j (digit_vector p amounts k i))

  pub sum_fits : (n j v r : ℕ) → 0 < k → k * l < 32 → j < l → r ≡ sign v → n ≡ l * k + signs_to p amounts k i j → n + r < 64
  sum_fits n j v r some room h told e = omega (arith, cost_few n j some room (omega arith) e, sign_low v)

  pub cost_all : (n j : ℕ) → l ≡ straus_digits p amounts k i - 1 → j ≤ l → l ≤ j → n ≡ l * k + signs_to p amounts k i j → n ≡ straus_payslip_count p amounts k i
  cost_all n j e h g is =
      let last : j ≡ l = omega arith in
      rw (← e) (is ∙ ap (λ (m : ℕ). l * k + signs_to p amounts k i m) last)

below_power : (n : ℕ) → n < 2 ^ n
below_power zero = omega arith
below_power (suc n) = omega (arith, below_power n, pow-suc 2 n)

-- the table has more entries than there are columns
pub columns_below : (p k : ℕ) → 1 ≤ k → p + 1 ≤ 2 ^ (p * k)
columns_below p k some =
    let wide : p ≤ p * k = omega (arith, mul-le-mul_left p some, mul-one p) in
    let grown : 2 ^ p ≤ 2 ^ (p * k) = pow_mono wide in
    omega (arith, below_power p)

-- the table, and the steps of all payslips or their parts of the ceiling
pub quote_all : (p q : ℕ) (amounts : List ℕ) (k n most w : ℕ) → w ≡ 2 ^ (p * k) → n ≡ w - p - 1 + sum_to q (straus_payslip_count p amounts k)
    → most ≡ w - p - 1 + sum_to q (straus_payslip_ceiling p amounts k) → QuoteOf (record { count = n; ceiling = most }) (straus_method p q amounts k)
unfolding straus_count straus_ceiling
quote_all p q amounts k n most w e counted ceiled =
    record { count_is = counted ∙ after (straus_payslip_count p amounts k); ceiling_is = ceiled ∙ after (straus_payslip_ceiling p amounts k) }
  where
    after : (f : ℕ → ℕ) → w - p - 1 + sum_to q f ≡ 2 ^ (p * k) - p - 1 + sum_to q f
    after f = ap (λ (a : ℕ). a - p - 1 + sum_to q f) e
