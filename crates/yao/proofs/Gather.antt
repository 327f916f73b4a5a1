-- By induction on the powers: b gets the weight of each whose digit is d, and a step for each but the first into an empty product.
use mathlib.Core.Path.{◌≡◌, ap, ◌∙◌, sym}
use mathlib.Core.List.{List}
use Prim.Native.Nat.{ℕ, zero, suc, ◌+◌, ◌*◌, ◌^◌, ◌≤◌, ◌<◌}
use native.Mathlib.Nat.{one-mul, zero-mul, mul-add, le_trans}
use native.Mathlib.Decide.{ℕ_discrete}
use native.Mathlib.Omega.{arith}
use lib.ListN.{length}
use Rattle.chain.specs.declared.Step.{Step}
use Rattle.chain.proofs.Rules.{eq_yes, eq_no}
use Rattle.chain.proofs.Exponents.{Makes}
use Rattle.digits.specs.Digits.{digit}
use Rattle.digits.specs.Range.{sum_to, sign}
use Rattle.digits.proofs.Range.{sign_some, sign-add}
use Rattle.digits.proofs.Vector.{vector, delta, delta_same, delta_other, delta_part}
use Rattle.products.specs.Product.{Made, times}
use Rattle.products.proofs.Sound.{makes_on}
use Rattle.products.proofs.Product.{times_cost, times_spent, Result, result_like, result_times}
use Rattle.yao.specs.Yao.{gather_one, gather}

-- one power: a product where the digit is d, else nothing
module _ (p y d : ℕ) (b : Made) (power : ℕ) where
  pub one_yes : y ≡ d → gather_one p y d b power ≡ times p b power
  unfolding gather_one
  one_yes e = rw (eq_yes y d e)

  pub one_no : (y ≡ d → ⊥) → gather_one p y d b power ≡ b
  unfolding gather_one
  one_no ne = rw (eq_no y d ne)

-- each of the matches costs a step, but the first into an empty product
pub record GatherCost (b g : Made) (matches : ℕ) : Type 0 where
  pub count : length g.steps + sign g.value ≡ length b.steps + sign b.value + matches
  pub value : sign g.value ≡ sign (b.value + matches)

one_count : (p y d : ℕ) (b : Made) (power : ℕ) → 0 < power → GatherCost b (gather_one p y d b power) (delta y d)
one_count p y d b power some = by_digit (ℕ_discrete y d)
  where
    by_digit : Dec (y ≡ d) → GatherCost b (gather_one p y d b power) (delta y d)
    by_digit (yes e) =
        let one : delta y d ≡ 1 = rw e (delta_same d) in
        let full = sign_some power some in
        rw (one_yes p y d b power e)
        (record {
          count = omega (arith, times_spent p b power);
          value = omega (arith, (times_cost p b power).value, sign-add b.value power, sign-add b.value (delta y d), sign_some (delta y d) (omega arith));
        })
    by_digit (no ne) =
        let none : delta y d ≡ 0 = delta_other y d ne in
        let same : b.value ≡ b.value + delta y d = omega arith in
        rw (one_no p y d b power ne) (record { count = omega arith; value = ap sign same })

pub gather_count : (p k : ℕ) (power : ℕ → ℕ) (x d n : ℕ) (b : Made) → ((j : ℕ) → j < n → 0 < power j)
    → GatherCost b (gather p k power x d n b) (sum_to n (λ j. delta (digit k x j) d))
gather_count p k power x d zero b some = let same : b.value ≡ b.value + 0 = omega arith in record { count = omega arith; value = ap sign same }
gather_count p k power x d (suc n) b some =
    let g = gather p k power x d n b in
    let m = sum_to n (λ j. delta (digit k x j) d) in
    let s = delta (digit k x n) d in
    let before = gather_count p k power x d n b (λ j h. some j (omega arith)) in
    let last = one_count p (digit k x n) d g (power n) (some n (omega arith)) in
    let e : b.value + (m + s) ≡ b.value + m + s = omega arith in
    record {
      count = omega (arith, before.count, last.count);
      value = rw e (omega (arith, before.value, last.value, sign-add g.value s, sign-add (b.value + m) s));
    }

-- where power j makes 2^(kj) of a column, and b some of it: the weights of the matches more
module _ (p limit k column : ℕ) (power : ℕ → ℕ) (x d : ℕ) {before : List Step} {b : Made} (some : ℕ)
    (start : Result p limit before b (λ c. delta column c * some)) where
  abbrev Gathers : ℕ → Type 0
  Gathers n =
      Result p limit before (gather p k power x d n b) (λ c. delta column c * (some + vector k (λ j. delta (digit k x j) d) n))

  pub gather_makes : (n : ℕ) → ((j : ℕ) → j < n → Makes p before (power j) (λ c. delta column c * 2 ^ (k * j)))
      → some + vector k (λ j. delta (digit k x j) d) n ≤ limit → Gathers n
  gather_makes zero given low =
      let same : some ≡ some + 0 = omega arith in
      result_like (λ c h. ap (λ (s : ℕ). delta column c * s) same) start
  gather_makes (suc n) given low =
      by_digit (gather_makes n (λ j h. given j (omega arith)) (omega arith)) (ℕ_discrete (digit k x n) d)
    where
      y : ℕ
      y = digit k x n

      weight : ℕ
      weight = 2 ^ (k * n)

      sum : ℕ
      sum = some + vector k (λ j. delta (digit k x j) d) n

      by_digit : Gathers n → Dec (y ≡ d) → Gathers (suc n)
      by_digit r (yes e) =
          let one : delta y d * weight ≡ weight = ap (λ (s : ℕ). s * weight) (rw e (delta_same d)) ∙ one-mul weight in
          let whole : sum + weight ≡ some + vector k (λ j. delta (digit k x j) d) (suc n) = omega arith in
          let join : (c : ℕ) → delta column c * sum + delta column c * weight ≡ delta column c * (sum + weight) =
          λ c. sym (mul-add (delta column c) sum weight) in
          rw (one_yes p y d (gather p k power x d n b) (power n) e)
          (result_like (λ c h. join c ∙ ap (λ (s : ℕ). delta column c * s) whole)
          (result_times r (makes_on r.begins (given n (omega arith)))
          (λ c h. rw (join c) (le_trans (delta_part column c (sum + weight)) (omega arith)))))
      by_digit r (no ne) =
          let none : delta y d * weight ≡ 0 = ap (λ (s : ℕ). s * weight) (delta_other y d ne) ∙ zero-mul weight in
          let whole : sum ≡ some + vector k (λ j. delta (digit k x j) d) (suc n) = omega arith in
          rw (one_no p y d (gather p k power x d n b) (power n) ne) (result_like (λ c h. ap (λ (s : ℕ). delta column c * s) whole) r)
