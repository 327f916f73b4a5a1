-- Horner's rule over digits: what a payslip of Straus's method makes, and how many steps it costs.
use mathlib.Core.Path.{◌≡◌, sym, ap, ◌∙◌}
use mathlib.Core.List.{List}
use Prim.Native.Nat.{ℕ, zero, suc, ◌+◌, ◌-◌, ◌*◌, ◌/◌, ◌^◌, ◌≤◌, ◌<◌}
use native.Mathlib.Nat.{one-mul, zero-mul, suc-mul, mul-zero, sub-zero, sub_self, le_refl, div-one, div-eq_of_lt, div-le_self}
use native.Mathlib.Numerals.{sub-one}
use native.Mathlib.Omega.{arith}
use lib.ListN.{length}
use Rattle.chain.specs.declared.Step.{Step}
use Rattle.chain.proofs.Exponents.{Makes}
use Rattle.digits.specs.Digits.{digit}
use Rattle.digits.specs.Range.{sum_to, sign}
use Rattle.digits.proofs.Range.{sign_some, sign_pos}
use Rattle.digits.proofs.Vector.{digits_from}
use Rattle.products.specs.Product.{made, squared}
use Rattle.products.proofs.Sound.{makes_on, Sound}
use Rattle.products.proofs.Product.{times_cost, squared_sign, squared_count, Result, result_empty, result_like, result_times, result_squared}
use Rattle.straus.specs.Straus.{horner}

-- the upper n of J digits of the numbers x, where e j makes their digit j
module _ (p limit k : ℕ) (e : ℕ → ℕ) (x : ℕ → ℕ) (J : ℕ) {before : List Step} (sound : Sound p limit before)
    (made : (j : ℕ) → Makes p before (e j) (λ c. digit k (x c) j))
    (short : (c : ℕ) → c < p → x c < 2 ^ (k * J)) (low : (c : ℕ) → c < p → x c ≤ limit) where
  pub horner_makes : (n : ℕ) → n ≤ J → Result p limit before (horner p k e J before n) (λ c. x c / 2 ^ (k * (J - n)))
  horner_makes zero h = result_like (λ c g. sym (rw (sub-zero J) (div-eq_of_lt (short c g)))) (result_empty sound)
  horner_makes (suc n) h =
      let j : ℕ = J - suc n in
      let up : J - n ≡ suc j = omega arith in
      let join : (c : ℕ) → x c / 2 ^ (k * (J - n)) * 2 ^ k + digit k (x c) j ≡ x c / 2 ^ (k * j) = λ c. rw up (digits_from k (x c) j) in
      let within : (c : ℕ) → c < p → x c / 2 ^ (k * j) ≤ limit = λ c g. omega (arith, div-le_self (x c) (2 ^ (k * j)), low c g) in
      let r = result_squared k (horner_makes n (omega arith)) (λ c g. omega (arith, join c, within c g)) in
      result_like (λ c g. join c) (result_times r (makes_on r.begins (made j)) (λ c g. rw (join c) (within c g)))

  pub horner_all : Result p limit before (horner p k e J before J) x
  horner_all = result_like (λ c g. rw (sub_self J, mul-zero k) (div-one (x c))) (horner_makes J (le_refl J))

-- The upper n + 1 of J + 1 digits, where the top digit is not empty: each digit below it costs k squarings, and a step if it is not empty itself.
pub record HornerCounted (p k : ℕ) (e : ℕ → ℕ) (J : ℕ) (before : List Step) (n : ℕ) : Type 0 where
  pub value : sign (horner p k e (suc J) before (suc n)).value ≡ 1
  pub count : length (horner p k e (suc J) before (suc n)).steps + sum_to (J - n) (λ j. sign (e j)) ≡ length before + n * k + sum_to J (λ j. sign (e j))

module _ (p k : ℕ) (e : ℕ → ℕ) (J : ℕ) (before : List Step) (top : 0 < e J) where
  count_top : HornerCounted p k e J before 0
  count_top =
      let s = squared p k (made before 0) in
      let r = times_cost p s (e (suc J - 1)) in
      let here : 0 < e (suc J - 1) = rw (sub-one (suc J)) top in
      let none : sign s.value * sign (e (suc J - 1)) ≡ 0 = rw (squared_sign p k (made before 0)) (zero-mul _) in
      record {
        value = r.value ∙ sign_some (s.value + e (suc J - 1)) (omega arith);
        count = rw (sub-zero J) (omega (arith, r.count, squared_count p k (made before 0), zero-mul k));
      }

  count_next : (n : ℕ) → n < J → HornerCounted p k e J before n → HornerCounted p k e J before (suc n)
  count_next n h c =
      let m = horner p k e (suc J) before (suc n) in
      let s = squared p k m in
      let j : ℕ = suc J - suc (suc n) in
      let r = times_cost p s (e j) in
      let one : sign s.value ≡ 1 = squared_sign p k m ∙ c.value in
      let step : sign s.value * sign (e j) ≡ sign (e j) = rw one (one-mul (sign (e j))) in
      let squarings : sign m.value * k ≡ k = rw c.value (one-mul k) in
      let place : j ≡ J - suc n = omega arith in
      let left : J - n ≡ suc (J - suc n) = omega arith in
      let split : sum_to (J - n) (λ i. sign (e i)) ≡ sum_to (J - suc n) (λ i. sign (e i)) + sign (e j) = rw (place, left) in
      record {
        value = r.value ∙ sign_some (s.value + e j) (omega (arith, sign_pos s.value one));
        count = omega (arith, c.count, r.count, squared_count p k m, suc-mul n k, split);
      }

  counted : (n : ℕ) → n ≤ J → HornerCounted p k e J before n
  counted zero h = count_top
  counted (suc n) h = count_next n h (counted n (omega arith))

  pub horner_count : length (horner p k e (suc J) before (suc J)).steps ≡ length before + (J * k + sum_to J (λ j. sign (e j)))
  horner_count =
      let c = counted J (le_refl J) in
      let none : sum_to (J - J) (λ j. sign (e j)) ≡ 0 = ap (λ (n : ℕ). sum_to n (λ j. sign (e j))) (sub_self J) in
      omega (arith, c.count)
