-- A payslip's amounts laid one over the other have the digits of the largest.
use mathlib.Core.Path.{◌≡◌, ap, ◌∙◌}
use mathlib.Core.List.{List}
use Prim.Native.Nat.{ℕ, zero, suc, ◌-◌, ◌*◌, ◌^◌, ◌<◌}
use native.Mathlib.Nat.{mul_comm, mul-zero}
use native.Mathlib.Omega.{arith}
use lib.ListN.{length}
use Rattle.digits.specs.Digits.{digit_count}
use Rattle.digits.specs.Range.{or_to}
use Rattle.digits.proofs.Overlay.{or_count}
use Rattle.digits.proofs.Words.{digit_place}
use Rattle.sheet.specs.Sheet.{amount}
use Rattle.sheet.proofs.Amounts.{payslip_within}
use Rattle.straus.specs.Straus.{straus_digits}
use Rattle.straus.specs.Inner.{StrausAsked, PayslipAsked}

-- the amounts of payslip i in its first c columns, one over the other
abbrev pub overlaid_to : ℕ → List ℕ → ℕ → ℕ → ℕ
overlaid_to p amounts i c = or_to c (amount p amounts i)

-- its digits
pub digits_told : (p : ℕ) (amounts : List ℕ) (k i x r : ℕ) → 0 < k → r ≡ digit_count k x → x ≡ overlaid_to p amounts i p → r ≡ straus_digits p amounts k i
unfolding straus_digits
digits_told p amounts k i x r some e is = e ∙ ap (digit_count k) is ∙ or_count k p (amount p amounts i) some

pub digits_fit : (k x r : ℕ) → 0 < k → x < 2 ^ 32 → r ≡ digit_count k x → k * (r - 1) < 32
digits_fit k x zero some low e = rw (mul-zero k) (omega arith)
digits_fit k x (suc r) some low e = digit_place k x (suc r - 1) some low (omega arith)

-- what a payslip's functions ask, from what the chain's do
pub payslip_asked : {p q : ℕ} {amounts : List ℕ} {k i : ℕ} → StrausAsked p q amounts k → i < q → PayslipAsked p amounts k i
payslip_asked {p} {q} {amounts} {k} {i} asked less =
    let ranges = asked.ranges in
    record {
      there = payslip_within p q i (length amounts) ranges.sheet.amounts_are less;
      k_some = ranges.k_some;
      k_low = omega (arith, ranges.k_low);
      vectors_low = omega (arith, ranges.sheet.p_low, asked.bits_low, mul_comm p k);
    }
