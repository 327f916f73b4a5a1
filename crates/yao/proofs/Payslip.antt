-- By induction on the columns: the powers before a payslip are long enough for each of its amounts, so each column adds its amount, and its steps.
use mathlib.Core.Path.{◌≡◌, refl}
use mathlib.Core.List.{List}
use Prim.Native.Nat.{ℕ, zero, suc, ◌+◌, ◌-◌, ◌*◌, ◌^◌, ◌≤◌, ◌<◌}
use native.Mathlib.Nat.{zero-mul, mul_comm, mul-le-mul_right, le_refl, le_trans, lt_of_le_of_lt}
use native.Mathlib.Numerals.{sub-one}
use native.Mathlib.Omega.{arith}
use lib.ListN.{length}
use Rattle.chain.specs.declared.Step.{Step}
use Rattle.chain.proofs.Exponents.{Makes}
use Rattle.digits.specs.Range.{sum_to, sign}
use Rattle.digits.proofs.Range.{sum_more, le_max, max_low, sign_sign, sign-add}
use Rattle.digits.proofs.Count.{count_own, count_high}
use Rattle.digits.proofs.Vector.{delta, sum_delta}
use Rattle.sheet.specs.Sheet.{amount}
use Rattle.products.specs.Product.{Made, made}
use Rattle.methods.specs.Powers.{largest_in, squarings}
use Rattle.products.proofs.Sound.{Begins, begins_on, makes_on, Sound}
use Rattle.products.proofs.Product.{times_cost, times_spent, Result, result_value, result_empty, result_like, result_after, result_times}
use Rattle.methods.proofs.Powers.{power_some, Powers, powers}
use Rattle.yao.specs.Yao.{yao_digits, yao_squarings, yao_power, Sweep, sweep, yao_payslip, amount_count, yao_payslip_count}
use Rattle.yao.proofs.Sweeping.{sweep_makes}
use Rattle.yao.proofs.Cost.{sweep_count, sweep_value}

-- the steps and the product a of an amount in column c
abbrev amount_made : ℕ → ℕ → List ℕ → ℕ → ℕ → ℕ → List Step → Sweep
amount_made p q amounts k i c before =
    sweep p k (yao_power p q amounts k c) (yao_digits p q amounts k c) (amount p amounts i c) before (2 ^ k - 1)

module _ (p q : ℕ) (amounts : List ℕ) (k : ℕ) (some : 0 < k) where
  -- a column's largest amount has J digits, so none has more
  digits_short : (i c : ℕ) → i < q → amount p amounts i c < 2 ^ (k * yao_digits p q amounts k c)
  unfolding yao_digits
  digits_short i c h = lt_of_le_of_lt (le_max q (λ i. amount p amounts i c) i h) (count_own k some (largest_in p q amounts c))

  -- the steps of the first columns, with one more for a product that is not empty
  record PayslipCounted (i : ℕ) (before : List Step) (c : ℕ) (m : Made) : Type 0 where
    count : length m.steps + sign m.value
        ≡ length before + sum_to c (λ d. amount_count k (yao_digits p q amounts k d) (amount p amounts i d)) + sum_to c (λ d. sign (amount p amounts i d))
    value : sign m.value ≡ sign (sum_to c (λ d. sign (amount p amounts i d)))

  counted : (i : ℕ) → i < q → (before : List Step) (c : ℕ) → PayslipCounted i before c (yao_payslip p q amounts k i before c)
  counted i h before zero = record { count = omega arith; value = refl }
  counted i h before (suc c) =
      let m = yao_payslip p q amounts k i before c in
      let s = counted i h before c in
      let x : ℕ = amount p amounts i c in
      let r = amount_made p q amounts k i c m.steps in
      let powers-some : (j : ℕ) → j < yao_digits p q amounts k c → 0 < yao_power p q amounts k c j =
      λ j g. power_some p (yao_squarings p q amounts k) c (k * j) in
      let cost = sweep_count p k (yao_power p q amounts k c) x (yao_digits p q amounts k c) m.steps powers-some in
      let full = sweep_value p k (yao_power p q amounts k c) x (yao_digits p q amounts k c) m.steps powers-some (digits_short i c h) in
      let nonzero : ℕ = sum_to c (λ d. sign (amount p amounts i d)) in
      record {
        count = omega (arith, s.count, times_spent p (made r.steps m.value) r.a);
        value = omega (arith, s.value, (times_cost p (made r.steps m.value) r.a).value, sign-add m.value r.a, sign-add nonzero (sign x), sign_sign x);
      }

  -- the steps of a payslip
  pub payslip_count_lem : (i : ℕ) → i < q → (before : List Step)
      → length (yao_payslip p q amounts k i before p).steps
      ≡ length before + yao_payslip_count p q amounts k i
  payslip_count_lem i h before =
      let s = counted i h before p in
      by_size (sum_to p (λ c. sign (amount p amounts i c))) s.value s.count
    where
      m : Made
      m = yao_payslip p q amounts k i before p

      amounts_count : ℕ
      amounts_count = sum_to p (λ c. amount_count k (yao_digits p q amounts k c) (amount p amounts i c))

      by_size : (z : ℕ) → sign m.value ≡ sign z → length m.steps + sign m.value ≡ length before + amounts_count + z
          → length m.steps ≡ length before + (amounts_count + (z - 1))
      by_size zero e c = omega arith
      by_size (suc z) e c = omega arith

  module _ (limit : ℕ) (one : 1 ≤ limit) (low : (i c : ℕ) → amount p amounts i c ≤ limit) where
    squarings_low : (c : ℕ) → 2 ^ yao_squarings p q amounts k c ≤ limit
    unfolding yao_digits
    squarings_low c = by_digits (yao_digits p q amounts k c) refl
      where
        by_digits : (J : ℕ) → yao_digits p q amounts k c ≡ J → 2 ^ ((J - 1) * k) ≤ limit
        by_digits zero e = rw (zero-mul k) one
        by_digits (suc J) e =
            rw (sub-one (suc J), mul_comm J k)
            (le_trans (count_high k some (largest_in p q amounts c) J (omega arith)) (max_low q _ limit (λ i h. low i c)))

    pub yao_powers : Powers p limit (yao_squarings p q amounts k) p
    yao_powers = powers p limit (yao_squarings p q amounts k) one (λ c h. squarings_low c) p (le_refl p)

    -- after any sound steps that begin with the powers, a payslip makes its amounts
    module _ (i : ℕ) (h : i < q) (before : List Step) (sound : Sound p limit before) (begins : Begins (squarings p (yao_squarings p q amounts k) p) before) where
      columns_make : (c : ℕ) → c ≤ p → Result p limit before (yao_payslip p q amounts k i before c) (λ e. sum_to c (λ d. delta d e * amount p amounts i d))
      columns_make zero g = result_empty sound
      columns_make (suc c) g = more (columns_make c (omega arith))
        where
          m : Made
          m = yao_payslip p q amounts k i before c

          r : Sweep
          r = amount_made p q amounts k i c m.steps

          within : (e : ℕ) → e < p → sum_to (suc c) (λ d. delta d e * amount p amounts i d) ≤ limit
          within e l =
              le_trans (sum_more (λ d. delta d e * amount p amounts i d) (suc c) p g) (rw (sum_delta p (amount p amounts i) e l) (low i e))

          more : Result p limit before m (λ e. sum_to c (λ d. delta d e * amount p amounts i d))
              → Result p limit before (yao_payslip p q amounts k i before (suc c)) (λ e. sum_to (suc c) (λ d. delta d e * amount p amounts i d))
          more s =
              result_times
              (result_after (begins_on s.begins made_here.begins) (result_value made_here.sound (makes_on made_here.begins s.makes)))
              made_here.makes within
            where
              given : (j : ℕ) → j < yao_digits p q amounts k c → Makes p m.steps (yao_power p q amounts k c j) (λ e. delta c e * 2 ^ (k * j))
              given j l =
                  makes_on (begins_on begins s.begins) (yao_powers.makes c (k * j) (omega arith) (rw (mul_comm k j) (mul-le-mul_right k (omega arith))))

              made_here : Result p limit m.steps (made r.steps r.a) (λ e. delta c e * amount p amounts i c)
              made_here =
                  sweep_makes p limit k c (yao_power p q amounts k c) (amount p amounts i c) (yao_digits p q amounts k c) s.sound given
                  (digits_short i c h) (low i c)

      pub payslip_makes : Result p limit before (yao_payslip p q amounts k i before p) (amount p amounts i)
      payslip_makes = result_like (λ e l. sum_delta p (amount p amounts i) e l) (columns_make p (le_refl p))
