-- A digit y is in b from the round of d = y on, so in y rounds of all: summed over the digits, that makes the amount.
use mathlib.Core.Path.{◌≡◌, sym, ap, ◌∙◌}
use Prim.Native.Nat.{ℕ, zero, suc, ◌+◌, ◌-◌, ◌*◌, ◌^◌, ◌≤◌, ◌<◌}
use native.Mathlib.Nat.{mul-le-mul_right}
use native.Mathlib.Decide.{dec_lt, ℕ_discrete}
use native.Mathlib.Omega.{arith}
use lib.Pow.{pow_pos}
use Rattle.digits.specs.Digits.{digit}
use Rattle.digits.specs.Range.{max_to, sign}
use Rattle.digits.proofs.Range.{sum_same, sum_le, sign_le, sign_some}
use Rattle.digits.proofs.Vector.{vector, vector_own, vector_add, delta, delta_same, delta_other}

-- in how many of the first n rounds, those of 2^k - 1 down to 2^k - n, the power of a digit y is in b
abbrev pub rounds : ℕ → ℕ → ℕ → ℕ
rounds k n y = y + suc n - 2 ^ k

module _ (k : ℕ) where
  -- none before the first, and y in all
  pub rounds_none : (y : ℕ) → y < 2 ^ k → rounds k 0 y ≡ 0
  rounds_none y h = omega arith

  pub rounds_all : (y : ℕ) → rounds k (2 ^ k - 1) y ≡ y
  rounds_all y = omega (arith, pow_pos k)

  -- one round more: it is a round more for each power that is then in b
  pub rounds_next : (n y : ℕ) → rounds k n y + sign (rounds k (suc n) y) ≡ rounds k (suc n) y
  rounds_next n y = by_size (dec_lt 0 (rounds k (suc n) y))
    where
      by_size : Dec (0 < rounds k (suc n) y) → rounds k n y + sign (rounds k (suc n) y) ≡ rounds k (suc n) y
      by_size (yes h) = omega (arith, sign_some (rounds k (suc n) y) h)
      by_size (no h) = omega (arith, sign_le (rounds k (suc n) y))

  -- and those are the ones before and the matches
  pub rounds_match : (n y : ℕ) → suc n ≤ 2 ^ k → sign (rounds k n y) + delta y (2 ^ k - suc n) ≡ sign (rounds k (suc n) y)
  rounds_match n y h = by_digit (ℕ_discrete y (2 ^ k - suc n)) (dec_lt y (2 ^ k - suc n))
    where
      by_digit : Dec (y ≡ 2 ^ k - suc n) → Dec (y < 2 ^ k - suc n) → sign (rounds k n y) + delta y (2 ^ k - suc n) ≡ sign (rounds k (suc n) y)
      by_digit (yes e) g =
          let one : delta y (2 ^ k - suc n) ≡ 1 = ap (λ (d : ℕ). delta d (2 ^ k - suc n)) e ∙ delta_same (2 ^ k - suc n) in
          omega (arith, sign_le (rounds k n y), sign_some (rounds k (suc n) y) (omega arith))
      by_digit (no ne) (yes lt) =
          let none = delta_other y (2 ^ k - suc n) ne in
          omega (arith, sign_le (rounds k n y), sign_le (rounds k (suc n) y))
      by_digit (no ne) (no ge) =
          let none = delta_other y (2 ^ k - suc n) ne in
          omega (arith, sign_some (rounds k n y) (omega arith), sign_some (rounds k (suc n) y) (omega arith))

  -- the largest digit is the one with the most rounds
  pub max_rounds : (n : ℕ) → n < 2 ^ k → (f : ℕ → ℕ) (J : ℕ) → max_to J (λ j. rounds k n (f j)) ≡ rounds k n (max_to J f)
  max_rounds n h f zero = omega arith
  max_rounds n h f (suc J) = omega (arith, max_rounds n h f J)

-- the rounds of each digit's power, and whether it is in b
abbrev pub each : ℕ → ℕ → ℕ → ℕ → ℕ
each k x n j = rounds k n (digit k x j)

abbrev pub in_b : ℕ → ℕ → ℕ → ℕ → ℕ
in_b k x n j = sign (rounds k n (digit k x j))

-- whether it is joined to b in round n + 1
abbrev pub joins : ℕ → ℕ → ℕ → ℕ → ℕ
joins k x n j = delta (digit k x j) (2 ^ k - suc n)

module _ (k x J : ℕ) where
  pub b_next : (n : ℕ) → suc n ≤ 2 ^ k → vector k (in_b k x n) J + vector k (joins k x n) J ≡ vector k (in_b k x (suc n)) J
  b_next n h =
      sym (vector_add k (in_b k x n) (joins k x n) J)
      ∙ sum_same J _ _ (λ j g. ap (λ (s : ℕ). s * 2 ^ (k * j)) (rounds_match k n (digit k x j) h))

  pub a_next : (n : ℕ) → vector k (each k x n) J + vector k (in_b k x (suc n)) J ≡ vector k (each k x (suc n)) J
  a_next n =
      sym (vector_add k (each k x n) (in_b k x (suc n)) J)
      ∙ sum_same J _ _ (λ j g. ap (λ (s : ℕ). s * 2 ^ (k * j)) (rounds_next k n (digit k x j)))

  -- at the end a makes the amount, and neither is above it before
  module _ (short : x < 2 ^ (k * J)) where
    pub a_all : vector k (each k x (2 ^ k - 1)) J ≡ x
    a_all = sum_same J _ _ (λ j g. ap (λ (s : ℕ). s * 2 ^ (k * j)) (rounds_all k (digit k x j))) ∙ vector_own k x J short

    pub a_low : (n : ℕ) → n < 2 ^ k → vector k (each k x n) J ≤ x
    a_low n h =
        let less = sum_le J (λ j. each k x n j * 2 ^ (k * j)) (λ j. digit k x j * 2 ^ (k * j)) (λ j g. mul-le-mul_right (2 ^ (k * j)) (omega arith)) in
        omega (arith, vector_own k x J short)
