-- Method 1 is right: the table is sound, each payslip made after it makes its amounts, and the steps of table and payslips add up to the count.
use mathlib.Core.Path.{◌≡◌, refl, ap₂, ◌∙◌}
use mathlib.Core.List.{List}
use Prim.Native.Nat.{ℕ, ◌+◌, ◌-◌, ◌*◌, ◌^◌, ◌≤◌}
use native.Mathlib.Nat.{mul-add, mul-one, le_refl, le_trans, add-le-add}
use native.Mathlib.Omega.{arith}
use lib.ListN.{length, get_or}
use lib.Pow.{pow_mono}
use Rattle.chain.specs.Chain.{most_amount}
use Rattle.digits.specs.Range.{sum_to, sign}
use Rattle.digits.proofs.Range.{sum_le, signs_low}
use Rattle.sheet.specs.Sheet.{amount}
use Rattle.methods.proofs.Payslips.{Pays, payslips_make, payslips_count_lem}
use Rattle.methods.proofs.Right.{Right, pays_right}
use Rattle.straus.specs.Straus.{straus_table, straus_digits, digit_vector, straus_payslip, straus, straus_count, straus_ceiling, straus_method, straus_most}
use Rattle.straus.proofs.Bases.{straus_table_count, straus_table_sound}
use Rattle.straus.proofs.Payslip.{payslip_count_lem, payslip_makes}

-- the count keeps to the ceiling
pub straus_ceiling_lem : (p q : ℕ) (amounts : List ℕ) (k : ℕ) → straus_count p q amounts k ≤ straus_ceiling p q amounts k
unfolding straus_count straus_ceiling
straus_ceiling_lem p q amounts k =
    add-le-add (le_refl (2 ^ (p * k) - p - 1)) (sum_le q _ _ (λ i h. each (straus_digits p amounts k i - 1) (digit_vector p amounts k i)))
  where
    each : (n : ℕ) (v : ℕ → ℕ) → n * k + sum_to n (λ j. sign (v j)) ≤ n * (k + 1)
    each n v = omega (arith, signs_low n v, mul-add n k 1, mul-one n)

module _ (p q : ℕ) (amounts : List ℕ) (k : ℕ) (some : 1 ≤ k) where
  -- the steps are as many as the count
  pub straus_count_lem : length (straus p q amounts k).steps ≡ straus_count p q amounts k
  unfolding straus straus_count
  straus_count_lem =
      payslips_count_lem (straus_payslip p amounts k) (straus_table p k) _ q (λ i h before. payslip_count_lem p amounts k some i before)
      ∙ ap₂ ◌+◌ (straus_table_count p k some) refl

  module _ (few : k ≤ straus_most) (low : (j : ℕ) → get_or amounts j 0 ≤ most_amount) where
    pays : Pays p most_amount (straus_table p k) (amount p amounts) q (straus p q amounts k)
    unfolding straus
    pays =
        let room : 2 ^ k ≤ most_amount + 1 = le_trans (pow_mono few) (omega arith) in
        payslips_make p most_amount (straus_payslip p amounts k) (straus_table p k) (amount p amounts) q (straus_table_sound p k some most_amount room)
        (λ i h. payslip_makes p amounts k some i most_amount room (λ c g. low (i * p + c)))

    -- all that is asked of a method
    pub straus_right : Right p q amounts (straus_method p q amounts k)
    straus_right = pays_right _ pays straus_count_lem (straus_ceiling_lem p q amounts k)
