-- Method 2 is right: the squarings make the powers, each payslip made after them makes its amounts, and the steps of both add up to the count.
use mathlib.Core.Path.{◌≡◌, refl, ap₂, ◌∙◌}
use mathlib.Core.List.{List}
use Prim.Native.Nat.{ℕ, ◌+◌, ◌*◌, ◌≤◌}
use native.Mathlib.Nat.{le_refl, add-le-add}
use native.Mathlib.Omega.{arith}
use lib.ListN.{length, get_or}
use Rattle.chain.specs.Chain.{most_amount}
use Rattle.digits.specs.Range.{sum_to}
use Rattle.digits.proofs.Range.{sum_le}
use Rattle.sheet.specs.Sheet.{amount}
use Rattle.methods.specs.Powers.{squarings}
use Rattle.methods.proofs.Payslips.{Pays, payslips_make, payslips_count_lem}
use Rattle.methods.proofs.Right.{Right, pays_right}
use Rattle.methods.proofs.Powers.{squarings_count}
use Rattle.yao.specs.Yao.{yao_digits, yao_squarings, yao_payslip, yao, yao_joins, yao_count, yao_ceiling, yao_method}
use Rattle.yao.proofs.Cost.{amount_ceiling_lem}
use Rattle.yao.proofs.Payslip.{payslip_count_lem, yao_powers, payslip_makes}

-- the count keeps to the ceiling
pub yao_ceiling_lem : (p q : ℕ) (amounts : List ℕ) (k : ℕ) → yao_count p q amounts k ≤ yao_ceiling p q amounts k
unfolding yao_count yao_ceiling
yao_ceiling_lem p q amounts k =
    add-le-add (le_refl (sum_to p (yao_squarings p q amounts k)))
    (sum_le q _ _ (λ i h. add-le-add (sum_le p _ _ (λ c g. amount_ceiling_lem k (yao_digits p q amounts k c) (amount p amounts i c))) (le_refl (yao_joins p amounts i))))

module _ (p q : ℕ) (amounts : List ℕ) (k : ℕ) (some : 1 ≤ k) where
  -- the steps are as many as the count
  pub yao_count_lem : length (yao p q amounts k).steps ≡ yao_count p q amounts k
  unfolding yao yao_count
  yao_count_lem =
      payslips_count_lem (λ i before. yao_payslip p q amounts k i before p) (squarings p (yao_squarings p q amounts k) p) _ q (payslip_count_lem p q amounts k some)
      ∙ ap₂ ◌+◌ (squarings_count p (yao_squarings p q amounts k) p) refl

  module _ (low : (j : ℕ) → get_or amounts j 0 ≤ most_amount) where
    pays : Pays p most_amount (squarings p (yao_squarings p q amounts k) p) (amount p amounts) q (yao p q amounts k)
    unfolding yao
    pays =
        let one : 1 ≤ most_amount = omega arith in
        let low-amounts : (i c : ℕ) → amount p amounts i c ≤ most_amount = λ i c. low (i * p + c) in
        payslips_make p most_amount (λ i before. yao_payslip p q amounts k i before p) (squarings p (yao_squarings p q amounts k) p) (amount p amounts) q
        (yao_powers p q amounts k some most_amount one low-amounts).sound (payslip_makes p q amounts k some most_amount one low-amounts)

    -- all that is asked of a method
    pub yao_right : Right p q amounts (yao_method p q amounts k)
    yao_right = pays_right _ pays yao_count_lem (yao_ceiling_lem p q amounts k)
