-- Digits, amounts and payslips are counted one by one: each sum so far is that of the definition, and few digits of 32-bit numbers keep it low.
use mathlib.Core.Path.{◌≡◌, ap, ap₂, ◌∙◌}
use mathlib.Core.List.{List}
use Prim.Native.Nat.{ℕ, ◌+◌, ◌-◌, ◌*◌, ◌^◌, ◌≤◌, ◌<◌}
use native.Mathlib.Nat.{mul-le-mul_right, one-mul}
use native.Mathlib.Omega.{arith}
use lib.Pow.{pow_mono}
use Rattle.digits.specs.Digits.{digit}
use Rattle.digits.specs.Range.{sum_to, max_to, sign}
use Rattle.digits.proofs.Range.{sign_low, sign_one, signs_low, max_low}
use Rattle.digits.proofs.Vector.{digit_low}
use Rattle.sheet.specs.Sheet.{amount}
use Rattle.methods.specs.Inner.{QuoteOf}
use Rattle.yao.specs.Yao.{yao_digits, yao_squarings, amount_count, amount_ceiling, yao_payslip_count, yao_payslip_ceiling, yao_count, yao_ceiling, yao_method, yao_most}
use Rattle.yao_count.specs.Inner.{amount_most}

-- the digits of an amount x: how many of the first j are not 0, and the largest
abbrev pub signs_to : ℕ → ℕ → ℕ → ℕ
signs_to k x j = sum_to j (λ i. sign (digit k x i))

abbrev pub most_to : ℕ → ℕ → ℕ → ℕ
most_to k x j = max_to j (λ i. digit k x i)

module _ (k x : ℕ) where
  few : (digits : ℕ) → 0 < k → k * digits ≤ 31 + k → k ≤ yao_most → digits ≤ 40
  few digits some room small = omega (arith, mul-le-mul_right digits some, one-mul digits)

  signs_fit : (digits j : ℕ) → 0 < k → k ≤ yao_most → k * digits ≤ 31 + k → j ≤ digits → signs_to k x j ≤ 40
  signs_fit digits j some small room h = omega (arith, few digits some room small, signs_low j (λ i. digit k x i))

  most_fits : (j : ℕ) → k ≤ yao_most → most_to k x j ≤ 255
  most_fits j small =
      let base : 2 ^ k ≤ 2 ^ yao_most = pow_mono {j = yao_most} small in
      max_low j (λ i. digit k x i) 255 (λ i g. omega (arith, digit_low k x i))

  module _ (digits j z : ℕ) (some : 0 < k) (small : k ≤ yao_most) (room : k * digits ≤ 31 + k) (h : j ≤ digits) (e : z ≡ signs_to k x j) where
    pub next_fits : (d r : ℕ) → r ≡ sign d → z + r < 64
    next_fits d r f = omega (arith, signs_fit digits j some small room h, sign_low d)

    pub amount_fits : (m : ℕ) → m ≡ most_to k x j → z + m < 512
    amount_fits m f = omega (arith, signs_fit digits j some small room h, most_fits j small)

    pub amount_few : (m r : ℕ) → m ≡ most_to k x j → r ≡ z + m - 2 → r ≤ amount_most
    amount_few m r f is = omega (arith, signs_fit digits j some small room h, most_fits j small)

  pub amount_end : (digits j z h r : ℕ) → j ≤ digits → digits ≤ j → z ≡ signs_to k x j → h ≡ most_to k x j → r ≡ z + h - 2 → r ≡ amount_count k digits x
  amount_end digits j z h r le ge e f is =
      let last : j ≡ digits = omega arith in
      rw (← last) (is ∙ ap₂ (λ (a b : ℕ). a + b - 2) e f)

-- the ceiling's part for an amount
module _ (k digits w : ℕ) (power : w ≡ 2 ^ k) where
  pub ceiling_fits : 0 < k → k ≤ yao_most → k * digits ≤ 31 + k → digits + w < amount_most
  ceiling_fits some small room =
      let base : 2 ^ k ≤ 2 ^ yao_most = pow_mono {j = yao_most} small in
      omega (arith, few k 0 digits some room small)

  pub ceiling_few : (r : ℕ) → r ≡ digits + w - 3 → 0 < k → k ≤ yao_most → k * digits ≤ 31 + k → r ≤ amount_most
  ceiling_few r is some small room = omega (arith, ceiling_fits some small room)

  pub ceiling_some : (x r : ℕ) → r ≡ digits + w - 3 → (x ≡ 0 → ⊥) → r ≡ amount_ceiling k digits x
  ceiling_some x r is some = rw (← sign_one x some, one-mul (digits + 2 ^ k - 3)) (is ∙ ap (λ (a : ℕ). digits + a - 3) power)

-- of payslip i: the steps of its first c amounts, their parts of the ceiling, and how many of them are not 0
abbrev pub amounts_to : ℕ → ℕ → List ℕ → ℕ → ℕ → ℕ → ℕ
amounts_to p q amounts k i c = sum_to c (λ d. amount_count k (yao_digits p q amounts k d) (amount p amounts i d))

abbrev pub ceilings_to : ℕ → ℕ → List ℕ → ℕ → ℕ → ℕ → ℕ
ceilings_to p q amounts k i c = sum_to c (λ d. amount_ceiling k (yao_digits p q amounts k d) (amount p amounts i d))

abbrev pub nonzero_to : ℕ → List ℕ → ℕ → ℕ → ℕ
nonzero_to p amounts i c = sum_to c (λ d. sign (amount p amounts i d))

-- the squarings, and the steps of all payslips or their parts of the ceiling
pub quote_all : (p q : ℕ) (amounts : List ℕ) (k n most b : ℕ) → b ≡ sum_to p (yao_squarings p q amounts k)
    → n ≡ b + sum_to q (yao_payslip_count p q amounts k) → most ≡ b + sum_to q (yao_payslip_ceiling p q amounts k)
    → QuoteOf (record { count = n; ceiling = most }) (yao_method p q amounts k)
unfolding yao_count yao_ceiling
quote_all p q amounts k n most b e counted ceiled =
    record { count_is = counted ∙ after (yao_payslip_count p q amounts k); ceiling_is = ceiled ∙ after (yao_payslip_ceiling p q amounts k) }
  where
    after : (f : ℕ → ℕ) → b + sum_to q f ≡ sum_to p (yao_squarings p q amounts k) + sum_to q f
    after f = ap (λ (a : ℕ). a + sum_to q f) e
