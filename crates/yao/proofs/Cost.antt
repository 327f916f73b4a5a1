-- By induction on the rounds: a step for each nonzero digit but the first, and one for each value of d up to the largest digit but the first.
use mathlib.Core.Path.{◌≡◌, sym, ap, ◌∙◌}
use mathlib.Core.List.{List}
use Prim.Native.Nat.{ℕ, zero, suc, ◌+◌, ◌-◌, ◌*◌, ◌^◌, ◌≤◌, ◌<◌}
use native.Mathlib.Nat.{one-mul}
use native.Mathlib.Omega.{arith}
use lib.ListN.{length}
use lib.Pow.{pow_pos}
use Rattle.chain.specs.declared.Step.{Step}
use Rattle.digits.specs.Digits.{digit}
use Rattle.digits.specs.Range.{sum_to, max_to, sign}
use Rattle.digits.proofs.Range.{sum_same, sum-zero, sum-add, sum-sign, max_sign, max_low, max_none, sign_mono, sign_sign, sign-add, sign-mul, signs_low}
use Rattle.digits.proofs.Vector.{digit_low, digit_zero, vector_own}
use Rattle.products.specs.Product.{Made, made}
use Rattle.products.proofs.Product.{times_cost, times_spent}
use Rattle.yao.specs.Yao.{gather, Sweep, sweep, amount_count, amount_ceiling}
use Rattle.yao.proofs.Gather.{gather_count}
use Rattle.yao.proofs.Rounds.{rounds, rounds_none, rounds_all, rounds_next, rounds_match, max_rounds, each, in_b, joins}

-- the largest of J digits
abbrev pub largest : ℕ → ℕ → ℕ → ℕ
largest k x J = max_to J (digit k x)

largest_low : (k x J : ℕ) → largest k x J < 2 ^ k
largest_low k x J = omega (arith, max_low J (digit k x) (2 ^ k - 1) (λ j h. omega (arith, digit_low k x j)), pow_pos k)

-- b is empty until the largest digit is reached
in_b_sign : (k x J n : ℕ) → n < 2 ^ k → sign (sum_to J (in_b k x n)) ≡ sign (rounds k n (largest k x J))
in_b_sign k x J n h =
    sum-sign J (in_b k x n) (each k x n) (λ j g. sign_sign (each k x n j))
    ∙ sym (max_sign J (each k x n))
    ∙ ap sign (max_rounds k n h (digit k x) J)

-- After n rounds, with a and b empty or not: a step for each power in b, and one for each round with a nonempty b, but the first of either.
pub record Spent (k x J : ℕ) (before : List Step) (n : ℕ) (r : Sweep) : Type 0 where
  pub count : length r.steps + sign r.a + sign r.b ≡ length before + sum_to J (in_b k x n) + rounds k n (largest k x J)
  pub value_a : sign r.a ≡ sign (rounds k n (largest k x J))
  pub value_b : sign r.b ≡ sign (rounds k n (largest k x J))

module _ (p k : ℕ) (power : ℕ → ℕ) (x J : ℕ) (before : List Step) (some : (j : ℕ) → j < J → 0 < power j) where
  spent : (n : ℕ) → n < 2 ^ k → Spent k x J before n (sweep p k power J x before n)
  spent zero h =
      let none : rounds k 0 (largest k x J) ≡ 0 = rounds_none k _ (largest_low k x J) in
      let zeros : sum_to J (in_b k x 0) ≡ 0 = sum-zero J _ (λ j g. ap sign (rounds_none k (digit k x j) (digit_low k x j))) in
      record { count = omega arith; value_a = sym (ap sign none); value_b = sym (ap sign none) }
  spent (suc n) h = more (spent n (omega arith))
    where
      r : Sweep
      r = sweep p k power J x before n

      g : Made
      g = gather p k power x (2 ^ k - suc n) J (made r.steps r.b)

      z : ℕ
      z = sum_to J (in_b k x n)

      m : ℕ
      m = sum_to J (joins k x n)

      l : ℕ
      l = largest k x J

      sum : z + m ≡ sum_to J (in_b k x (suc n))
      sum = sym (sum-add J (in_b k x n) (joins k x n)) ∙ sum_same J _ _ (λ j i. rounds_match k n (digit k x j) (omega arith))

      more : Spent k x J before n r → Spent k x J before (suc n) (sweep p k power J x before (suc n))
      more s =
          let gathered = gather_count p k power x (2 ^ k - suc n) J (made r.steps r.b) some in
          let a = made g.steps r.a in
          let filled : sign g.value ≡ sign (rounds k (suc n) l) =
          omega (arith, gathered.value, sign-add r.b m, sign-add z m, ap sign sum, in_b_sign k x J n (omega arith), in_b_sign k x J (suc n) h) in
          record {
            count = omega (arith, times_spent p a g.value, gathered.count, sum, rounds_next k n l);
            value_a = omega (arith, (times_cost p a g.value).value, sign-add r.a g.value, sign_mono (rounds k n l) (rounds k (suc n) l) (omega arith));
            value_b = filled;
          }

  -- all rounds
  end : Spent k x J before (2 ^ k - 1) (sweep p k power J x before (2 ^ k - 1))
  end = spent (2 ^ k - 1) (omega (arith, pow_pos k))

  pub sweep_count : length (sweep p k power J x before (2 ^ k - 1)).steps ≡ length before + amount_count k J x
  sweep_count =
      let h : ℕ = largest k x J in
      let z : ℕ = sum_to J (λ j. sign (digit k x j)) in
      let all : rounds k (2 ^ k - 1) h ≡ h = rounds_all k h in
      let signs : sum_to J (in_b k x (2 ^ k - 1)) ≡ z = sum_same J _ _ (λ j g. ap sign (rounds_all k (digit k x j))) in
      let s = end in
      by_size h z (sym (ap sign signs) ∙ in_b_sign k x J (2 ^ k - 1) (omega (arith, pow_pos k)) ∙ ap sign all)
      (omega (arith, s.count, s.value_a, s.value_b, ap sign all))
    where
      by_size : (h z : ℕ) → sign z ≡ sign h → length (sweep p k power J x before (2 ^ k - 1)).steps + sign h + sign h ≡ length before + z + h
          → length (sweep p k power J x before (2 ^ k - 1)).steps ≡ length before + (z + h - 2)
      by_size zero zero e c = omega arith
      by_size zero (suc z) e c = absurd (omega arith)
      by_size (suc h) zero e c = absurd (omega arith)
      by_size (suc h) (suc z) e c = omega arith

  -- the product is empty where the amount is 0
  pub sweep_value : x < 2 ^ (k * J) → sign (sweep p k power J x before (2 ^ k - 1)).a ≡ sign x
  sweep_value short =
      end.value_a
      ∙ ap sign (rounds_all k (largest k x J))
      ∙ max_sign J (digit k x)
      ∙ sym (sum-sign J (λ j. digit k x j * 2 ^ (k * j)) (digit k x) (λ j g. sign-mul (digit k x j) (2 ^ (k * j)) (pow_pos (k * j))))
      ∙ ap sign (vector_own k x J short)

-- an amount with no digit but 0 takes no step, so 0 takes none
pub no_digits : (k J x : ℕ) → ((j : ℕ) → j < J → digit k x j ≡ 0) → amount_count k J x ≡ 0
no_digits k J x none = omega (arith, sum-zero J (λ j. sign (digit k x j)) (λ j g. ap sign (none j g)), (max_none J (digit k x)).1 none)

pub zero_amount : (k J : ℕ) → amount_count k J 0 ≡ 0
zero_amount k J = no_digits k J 0 (λ j h. digit_zero k j)

-- the cost of an amount keeps to its ceiling
pub amount_ceiling_lem : (k J x : ℕ) → amount_count k J x ≤ amount_ceiling k J x
amount_ceiling_lem k J zero = omega (arith, zero_amount k J)
amount_ceiling_lem k J (suc x) =
    omega (arith, signs_low J (digit k (suc x)), largest_low k (suc x) J, one-mul (J + 2 ^ k - 3))
