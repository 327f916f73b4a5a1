-- A payslip of Straus's method: what it makes, and how many steps it costs.
use mathlib.Core.Path.{◌≡◌, refl, ap, ◌∙◌}
use mathlib.Core.List.{List}
use Prim.Native.Nat.{ℕ, zero, suc, ◌+◌, ◌-◌, ◌*◌, ◌^◌, ◌≤◌, ◌<◌}
use native.Mathlib.Nat.{mul-pos, lt_of_le_of_lt, lt_of_lt_of_le}
use native.Mathlib.Numerals.{sub-one}
use native.Mathlib.Omega.{arith}
use lib.ListN.{length}
use lib.Pow.{pow_pos}
use Rattle.chain.specs.declared.Step.{Step}
use Rattle.chain.proofs.Exponents.{makes_like}
use Rattle.digits.specs.Digits.{digit_count, digit}
use Rattle.digits.specs.Range.{sum_to, max_to, sign}
use Rattle.digits.proofs.Range.{sum_same, le_sum, le_max, max_attained, sign_some, sign_pos}
use Rattle.digits.proofs.Count.{count_own, count_zero, top_digit}
use Rattle.digits.proofs.Vector.{digit_low, vector_low, digit_vector_lem}
use Rattle.sheet.specs.Sheet.{amount}
use Rattle.tables.specs.Table.{entry}
use Rattle.products.proofs.Sound.{Begins, makes_on, Sound}
use Rattle.products.proofs.Product.{Result}
use Rattle.straus.specs.Straus.{bases, straus_table, straus_digits, digit_vector, horner, straus_payslip}
use Rattle.straus.proofs.Bases.{straus_entry_sign, straus_table_makes}
use Rattle.straus.proofs.Horner.{horner_all, horner_count}

module _ (p : ℕ) (amounts : List ℕ) (k : ℕ) (some : 0 < k) (i : ℕ) where
  -- a vector of digits is an entry of the table
  pub in_table : (j : ℕ) → digit_vector p amounts k i j < 2 ^ (k * p)
  in_table j = vector_low k (λ c. digit k (amount p amounts i c) j) p (λ c h. digit_low k (amount p amounts i c) j)

  -- the largest amount has J digits, so none has more
  digits_short : (c : ℕ) → c < p → amount p amounts i c < 2 ^ (k * straus_digits p amounts k i)
  unfolding straus_digits
  digits_short c h = lt_of_le_of_lt (le_max p (amount p amounts i) c h) (count_own k some (max_to p (amount p amounts i)))

  -- the vector of the top digits is not zero
  top_vector : (J : ℕ) → straus_digits p amounts k i ≡ suc J → 0 < digit_vector p amounts k i J
  unfolding straus_digits
  top_vector J e =
      let x = amount p amounts i in
      let r = max_attained p x (positive (max_to p x) e) in
      lt_of_lt_of_le (mul-pos (top_digit k some (x r.place) J (ap (digit_count k) r.largest ∙ e)) (pow_pos (k * r.place)))
      (le_sum p (λ c. digit k (x c) J * 2 ^ (k * c)) r.place r.below)
    where
      positive : (largest : ℕ) → digit_count k largest ≡ suc J → 0 < largest
      positive zero e = absurd (omega (arith, count_zero k))
      positive (suc largest) e = omega arith

  -- the steps of a payslip
  pub payslip_count_lem : (before : List Step)
      → length (straus_payslip p amounts k i before).steps
      ≡ length before + ((straus_digits p amounts k i - 1) * k + sum_to (straus_digits p amounts k i - 1) (λ j. sign (digit_vector p amounts k i j)))
  payslip_count_lem before = by_digits (straus_digits p amounts k i) refl
    where
      e : ℕ → ℕ
      e j = entry k (bases p) (p + 1) (digit_vector p amounts k i j)

      by_digits : (J : ℕ) → straus_digits p amounts k i ≡ J
          → length (horner p k e J before J).steps ≡ length before + ((J - 1) * k + sum_to (J - 1) (λ j. sign (digit_vector p amounts k i j)))
      by_digits zero is = omega arith
      by_digits (suc J) is =
          let signs : (j : ℕ) → sign (e j) ≡ sign (digit_vector p amounts k i j) = λ j. straus_entry_sign p k some _ (in_table j) in
          let top : 0 < e J = sign_pos (e J) (signs J ∙ sign_some (digit_vector p amounts k i J) (top_vector J is)) in
          rw (sub-one (suc J)) (horner_count p k e J before top ∙ ap (λ (s : ℕ). length before + (J * k + s)) (sum_same J _ _ (λ j h. signs j)))

  -- after any sound steps that begin with the table, a payslip makes its amounts
  pub payslip_makes : (limit : ℕ) → 2 ^ k ≤ limit + 1 → ((c : ℕ) → c < p → amount p amounts i c ≤ limit)
      → (before : List Step) → Sound p limit before → Begins (straus_table p k) before
      → Result p limit before (straus_payslip p amounts k i before) (amount p amounts i)
  payslip_makes limit room low before s b =
      horner_all p limit k (λ j. entry k (bases p) (p + 1) (digit_vector p amounts k i j)) (amount p amounts i) (straus_digits p amounts k i) s
      (λ j. makes_like p _ _ _ _ (λ c h. digit_vector_lem k (λ d. digit k (amount p amounts i d) j) p (λ d g. digit_low k (amount p amounts i d) j) c h)
      (makes_on b (straus_table_makes p k some limit room (digit_vector p amounts k i j) (in_table j))))
      digits_short low
