-- Raised to its column's place and moved down by a digit's weight, an amount has that digit under its column's mask. So what stands under the masks adds
-- up to the vector of the digits.
use mathlib.Core.Path.{◌≡◌, sym, ap, ap₂, ◌∙◌}
use mathlib.Core.List.{List}
use Prim.Native.Nat.{ℕ, ◌+◌, ◌-◌, ◌*◌, ◌/◌, ◌%◌, ◌^◌, ◌≤◌, ◌<◌}
use native.Mathlib.Nat.{add_comm, one-mul, mul-le-mul_right}
use native.Mathlib.Omega.{arith}
use lib.Bits.{bit_and, and_high}
use lib.ListN.{length}
use lib.Pow.{pow_mono, shl-shr, shr-shr}
use Rattle.chain.specs.Chain.{most_columns}
use Rattle.chain.specs.Written.{over}
use Rattle.chain.specs.declared.Step.{Step}
use Rattle.digits.specs.Digits.{digit}
use Rattle.digits.specs.Range.{sum_to, list_to}
use Rattle.digits.proofs.Range.{sum_same, sum_more, sum_on}
use Rattle.methods.proofs.Filling.{filled_at}
use Rattle.sheet.specs.Sheet.{amount}
use Rattle.straus.specs.Straus.{bases, straus_digits, digit_vector, straus_payslip}
use Rattle.straus.specs.Inner.{PayslipAsked}
use Rattle.straus.proofs.Bases.{length-bases}
use Rattle.straus.proofs.Payslip.{in_table}
use Rattle.tables.specs.Table.{entry}
use Rattle.straus_emit.specs.Inner.{PayslipOver, raised_at, mask_at, vector_at, digits_made, DigitsAsked}
use Rattle.straus_emit.proofs.Emitting.{horner_same}

-- a mask's upper end is above its lower one
pub mask_some : (k c top bottom : ℕ) → top ≡ 1 * 2 ^ (k + k * c) → bottom ≡ 1 * 2 ^ (k * c) → bottom ≤ top
mask_some k c top bottom e f =
    let rise : 2 ^ (k * c) ≤ 2 ^ (k + k * c) = pow_mono (omega arith) in
    omega (arith, one-mul (2 ^ (k * c)), one-mul (2 ^ (k + k * c)))

digit_masked : (k x j c : ℕ) → bit_and (x * 2 ^ (k * c) / 2 ^ (k * j)) (mask_at k c) ≡ digit k x j * 2 ^ (k * c)
digit_masked k x j c = and_high (x * 2 ^ (k * c) / 2 ^ (k * j)) k (k * c) ∙ ap (λ (y : ℕ). y % 2 ^ k * 2 ^ (k * c)) down
  where
    down : x * 2 ^ (k * c) / 2 ^ (k * j) / 2 ^ (k * c) ≡ x / 2 ^ (k * j)
    down =
        shr-shr (x * 2 ^ (k * c)) (k * j) (k * c)
        ∙ ap (λ (e : ℕ). x * 2 ^ (k * c) / 2 ^ e) (add_comm (k * j) (k * c))
        ∙ sym (shr-shr (x * 2 ^ (k * c)) (k * c) (k * j))
        ∙ ap (λ (y : ℕ). y / 2 ^ (k * j)) (shl-shr x (k * c))

pub columns_few : {p : ℕ} {amounts : List ℕ} {k i : ℕ} → PayslipAsked p amounts k i → p ≤ most_columns
columns_few {p} asked = omega (arith, asked.vectors_low, mul-le-mul_right p asked.k_some, one-mul p)

-- a payslip laid out
module _ {p : ℕ} {amounts : List ℕ} {k : ℕ} {inputs : List ℕ} {i : ℕ} (asked : PayslipOver p amounts k inputs i) (old cells old' masks : List ℕ)
    (raised : cells ≡ over (list_to p (raised_at p amounts k i)) old) (masked : masks ≡ over (list_to p (mask_at k)) old') where
  vector_is : (j : ℕ) → vector_at p cells masks (k * j) ≡ digit_vector p amounts k i j
  vector_is j =
      sum_same p _ _
      (λ c h. ap₂ (λ (a m : ℕ). bit_and (a / 2 ^ (k * j)) m) (filled_at (raised_at p amounts k i) old p cells raised c h) (filled_at (mask_at k) old' p masks masked c h)
      ∙ digit_masked k (amount p amounts i c) j c)

  table_wide : k * length inputs ≡ k * p
  table_wide = ap (λ (l : List ℕ). k * length l) asked.bases_are ∙ ap (λ (n : ℕ). k * n) (length-bases p)

  pub digits_asked : (digits : ℕ) → k * (digits - 1) < 32 → p ≤ length cells → p ≤ length masks → DigitsAsked p k inputs cells masks digits
  digits_asked digits low cells-long masks-long =
      let payslip = asked.payslip in
      let most : 2 ^ (k * p) ≤ 2 ^ 31 = pow_mono {j = 31} (omega (arith, payslip.vectors_low)) in
      record {
        k_some = payslip.k_some;
        k_low = payslip.k_low;
        places_low = low;
        cells_there = cells-long;
        masks_there = masks-long;
        entries = λ j. rw (table_wide, vector_is j) (in_table p amounts k payslip.k_some i j);
        numbers = rw table_wide (omega (arith, payslip.vectors_low));
      }

  -- its digits make the payslip
  pub payslip_is : (digits : ℕ) → digits ≡ straus_digits p amounts k i → (before : List Step)
      → digits_made p k inputs cells masks digits before digits ≡ straus_payslip p amounts k i before
  payslip_is digits is before =
      ap₂ (λ (l : List ℕ) (J : ℕ). digits_made p k l cells masks J before J) asked.bases_are is
      ∙ horner_same p k _ J _ (λ j. ap (entry k (bases p) (p + 1)) (vector_is j)) before J
    where
      J : ℕ
      J = straus_digits p amounts k i

-- a sum in the making is low where the whole is
pub next_low : (f : ℕ → ℕ) (p : ℕ) → sum_to p f < 2 ^ 32 → (c v x : ℕ) → c < p → v ≡ sum_to c f → x ≡ f c → v + x < 2 ^ 32
next_low f p low c v x h e is = omega (arith, low, sum_more f (c + 1) p (omega arith), sum_on f c v x is e)
