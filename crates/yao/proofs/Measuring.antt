-- A column's digits are those of its largest amount, and few; stored and read again they give the squarings of the definition, one by one and in their sum.
use mathlib.Core.Path.{◌≡◌, ap, ◌∙◌}
use mathlib.Core.List.{List}
use Prim.Native.Nat.{ℕ, zero, suc, ◌+◌, ◌-◌, ◌*◌, ◌^◌, ◌≤◌, ◌<◌}
use native.Mathlib.Nat.{mul-suc, mul_comm, zero-mul, mul-le-mul_left}
use native.Mathlib.Decide.{dec_lt}
use native.Mathlib.Numerals.{sub-one}
use native.Mathlib.Omega.{arith}
use lib.ListN.{length, get_or, take}
use lib.Seq.{get_or-take}
use lib.Pow.{pow_mono}
use Rattle.digits.specs.Digits.{digit_count}
use Rattle.chain.specs.Written.{over}
use Rattle.digits.specs.Range.{sum_to, list_to}
use Rattle.digits.proofs.Count.{count_high}
use Rattle.digits.proofs.Range.{sum_same}
use Rattle.methods.specs.Inner.{Largest, digits_at}
use Rattle.methods.proofs.Filling.{filled_at}
use Rattle.yao.specs.Yao.{yao_digits, yao_squarings}
use Rattle.yao.specs.Inner.{Measured, squarings_in, squarings_most}

-- a number of 32 bits has no digit that begins past them
pub digits_few : (k x r : ℕ) → 0 < k → x < 2 ^ 32 → r ≡ digit_count k x → k * r ≤ 31 + k
digits_few k x zero some low e = omega arith
digits_few k x (suc r) some low e = by_place (dec_lt (k * r) 32)
  where
    by_place : Dec (k * r < 32) → k * suc r ≤ 31 + k
    by_place (yes lt) = omega (arith, mul-suc k r)
    by_place (no ge) =
        let high = count_high k some x r (omega arith) in
        let wide : 2 ^ 32 ≤ 2 ^ (k * r) = pow_mono {i = 32} (omega arith) in
        absurd (omega arith)

-- each digit begins within them
pub digit_place : (k j digits : ℕ) → 0 < k → j < digits → k * digits ≤ 31 + k → k * j < 32
digit_place k j digits some h room = omega (arith, mul-le-mul_left k h, mul-suc k j)

-- the squarings of a column
pub squarings_few : (k digits : ℕ) → k * digits ≤ 31 + k → (digits - 1) * k ≤ squarings_most
squarings_few k zero h = rw (zero-mul k) (omega arith)
squarings_few k (suc d) h = rw (sub-one (suc d)) (omega (arith, mul-suc k d, mul_comm k d))

-- the digits of the largest amounts, which are numbers of 32 bits, are the columns'
pub columns_measured : (p q : ℕ) (amounts : List ℕ) (k : ℕ) (largest old cells : List ℕ) → 0 < k → ((c : ℕ) → get_or largest c 0 < 2 ^ 32)
    → Largest p q amounts largest → p ≤ length cells → cells ≡ over (list_to p (digits_at k largest)) old → Measured p q amounts k cells
unfolding yao_digits
columns_measured p q amounts k largest old cells some low l room e =
    record {
      narrow = record { there = room; few = λ c h. digits_few k (get_or largest c 0) (get_or cells c 0) some (low c) (at c h) };
      are = λ c h. at c h ∙ ap (digit_count k) (l.are c h);
    }
  where
    at : (c : ℕ) → c < p → get_or cells c 0 ≡ digit_count k (get_or largest c 0)
    at = filled_at (digits_at k largest) old p cells e

module _ (p q : ℕ) (amounts : List ℕ) (k : ℕ) (cells : List ℕ) (m : Measured p q amounts k cells) where
  -- read again from the front
  pub column_is : (c : ℕ) → c < p → get_or (take p cells) c 0 ≡ yao_digits p q amounts k c
  column_is c h = get_or-take p cells c 0 h ∙ m.are c h

  pub column_few : (c : ℕ) → c < p → k * get_or (take p cells) c 0 ≤ 31 + k
  column_few c h = rw get_or-take (m.narrow.few c h)

  -- they are those of the definition
  pub squarings_are : (c : ℕ) → c < p → squarings_in k cells c ≡ yao_squarings p q amounts k c
  squarings_are c h = ap (λ (d : ℕ). (d - 1) * k) (m.are c h)

  pub squarings-sum : sum_to p (squarings_in k cells) ≡ sum_to p (yao_squarings p q amounts k)
  squarings-sum = sum_same p (squarings_in k cells) (yao_squarings p q amounts k) squarings_are
