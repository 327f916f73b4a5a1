-- A number and the unit below it are multiples of its lowest digit's weight: unless they are the same, that weight less leaves as many digits.
use mathlib.Core.Path.{◌≡◌, ap, ◌∙◌}
use mathlib.Core.Bool.{false}
use Prim.Native.Nat.{ℕ, zero, suc, ◌+◌, ◌-◌, ◌*◌, ◌^◌, ◌≤◌, ◌<◌}
use native.Mathlib.Nat.{mul-add, mul-le-mul_right, suc-mul}
use native.Mathlib.Decide.{dec_le}
use native.Mathlib.Omega.{arith}
use lib.Pow.{pow-add}
use Rattle.chain.proofs.Rules.{not_eq}
use Rattle.digits.specs.Digits.{digit_count}
use Rattle.digits.proofs.Count.{count_low, count_mono, count_high}
use Rattle.tables.specs.Table.{is_unit, lowest}
use Rattle.tables.proofs.Table.{lowest_digit}
use Rattle.tables.proofs.Trailing.{lowest_weight}

-- the lowest digit of t is one of its digits
pub lowest_below : (k t : ℕ) → 0 < k → 0 < t → lowest k t < digit_count k t
lowest_below k zero some h = absurd (omega arith)
lowest_below k (suc t) some h = (lowest_digit k t some).below

-- a multiple of w that is above another one is so by w at least
multiple_above : (q r w : ℕ) → r * w < q * w → r * w + w ≤ q * w
multiple_above q r w h = by_size (dec_le q r)
  where
    by_size : Dec (q ≤ r) → r * w + w ≤ q * w
    by_size (yes le) = absurd (omega (arith, mul-le-mul_right w le))
    by_size (no gt) =
        let more : suc r ≤ q = omega arith in
        omega (arith, mul-le-mul_right w more, suc-mul r w)

module _ (k t : ℕ) (some : 0 < k) (h : 0 < t) (other : is_unit k t ≡ false) where
  abbrev l : ℕ
  l = lowest k t

  abbrev top : ℕ
  top = digit_count k t - 1

  l_low : l ≤ top
  l_low = omega (arith, lowest_below k t some h)

  top_weight : 2 ^ (k * top) ≡ 2 ^ (k * (top - l)) * 2 ^ (k * l)
  top_weight =
      let gap : top ≡ top - l + l = omega (arith, l_low) in
      ap (λ (e : ℕ). 2 ^ e) (ap (λ (n : ℕ). k * n) gap ∙ mul-add k (top - l) l) ∙ pow-add 2 (k * (top - l)) (k * l)

  above : 2 ^ (k * top) < t
  above =
      let no-unit : t ≡ 2 ^ (k * top) → ⊥ = not_eq _ _ other in
      omega (arith, count_high k some t top (omega (arith, lowest_below k t some h)))

  pub rest_high : 2 ^ (k * top) ≤ t - 2 ^ (k * l)
  rest_high =
      let q = lowest_weight k t some h in
      omega (arith, q.1, top_weight, multiple_above q.0 (2 ^ (k * (top - l))) (2 ^ (k * l)) (omega (arith, q.1, top_weight, above)))

  pub rest_count : digit_count k (t - 2 ^ (k * l)) ≡ digit_count k t
  rest_count = by_count (dec_le (digit_count k (t - 2 ^ (k * l))) top)
    where
      by_count : Dec (digit_count k (t - 2 ^ (k * l)) ≤ top) → digit_count k (t - 2 ^ (k * l)) ≡ digit_count k t
      by_count (yes few) = absurd (omega (arith, rest_high, count_low k some (t - 2 ^ (k * l)) top few))
      by_count (no many) = omega (arith, count_mono k some (t - 2 ^ (k * l)) t (omega arith))
