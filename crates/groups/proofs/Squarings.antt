-- The squarings are w less the columns that are not all 0 (Spec 3.7): a column is squared once less than it has bits, if it has any.
use mathlib.Core.Path.{◌≡◌, sym, ◌∙◌}
use mathlib.Core.Logic.{◌↔◌}
use mathlib.Core.List.{List}
use Prim.Native.Nat.{ℕ, zero, suc, ◌+◌, ◌-◌, ◌<◌}
use native.Mathlib.Omega.{arith}
use Rattle.digits.specs.Digits.{bit_length}
use Rattle.digits.specs.Range.{sign}
use Rattle.digits.proofs.Count.{count_zero, bits_some}
use Rattle.digits.proofs.Range.{sum_same, sum-add, max_none}
use Rattle.sheet.specs.Sheet.{amount}
use Rattle.methods.specs.Powers.{largest_in}
use Rattle.groups.specs.Groups.{column_bits, column_squarings, columns_used, input_count, squaring_count}

module _ (p q : ℕ) (amounts : List ℕ) where
  -- a column is all 0 exactly if its largest amount is 0
  pub zero_column : (col : ℕ) → largest_in p q amounts col ≡ 0 ↔ ((i : ℕ) → i < q → amount p amounts i col ≡ 0)
  zero_column col = max_none q (λ i. amount p amounts i col)

  pub squarings_less : squaring_count p q amounts + columns_used p q amounts ≡ input_count p q amounts
  unfolding column_bits bit_length
  squarings_less = sym (sum-add p _ _) ∙ sum_same p _ _ (λ col h. of_column col)
    where
      of_largest : (x : ℕ) → bit_length x - 1 + sign x ≡ bit_length x
      of_largest zero = omega (arith, count_zero 1)
      of_largest (suc x) = omega (arith, bits_some (suc x) (omega arith))

      of_column : (col : ℕ) → column_squarings p q amounts col + sign (largest_in p q amounts col) ≡ column_bits p q amounts col
      of_column col = of_largest (largest_in p q amounts col)

  -- as the specification says it
  pub squarings_are : squaring_count p q amounts ≡ input_count p q amounts - columns_used p q amounts
  squarings_are = omega (arith, squarings_less)
