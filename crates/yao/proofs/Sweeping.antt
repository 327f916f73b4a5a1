-- By induction on the rounds: after n of them each power is in a once for each round in which it was in b, and in the end that makes the amount.
use mathlib.Core.Path.{◌≡◌, sym, ap, ◌∙◌}
use mathlib.Core.List.{List}
use Prim.Native.Nat.{ℕ, zero, suc, ◌+◌, ◌-◌, ◌*◌, ◌^◌, ◌≤◌, ◌<◌}
use native.Mathlib.Nat.{mul-add, mul-zero, le_trans}
use native.Mathlib.Omega.{arith}
use lib.Pow.{pow_pos}
use Rattle.chain.specs.declared.Step.{Step}
use Rattle.chain.proofs.Exponents.{Makes, makes_zero, makes_like}
use Rattle.digits.specs.Digits.{digit}
use Rattle.digits.specs.Range.{sign}
use Rattle.digits.proofs.Vector.{vector, vector_zero, digit_low, delta, delta_part}
use Rattle.products.specs.Product.{Made, made, times}
use Rattle.products.proofs.Sound.{Begins, begins_own, begins_on, makes_on, Sound}
use Rattle.products.proofs.Product.{Result, result_value, result_like, result_times}
use Rattle.yao.specs.Yao.{gather, Sweep, sweep}
use Rattle.yao.proofs.Gather.{gather_makes}
use Rattle.yao.proofs.Rounds.{each, in_b, rounds_none, b_next, a_next, a_all, a_low}

-- After n rounds: each power is in a once for each round in which it was in b.
pub record Swept (p limit k column x J : ℕ) (before : List Step) (n : ℕ) (r : Sweep) : Type 0 where
  pub sound : Sound p limit r.steps
  pub begins : Begins before r.steps
  pub makes_a : Makes p r.steps r.a (λ c. delta column c * vector k (each k x n) J)
  pub makes_b : Makes p r.steps r.b (λ c. delta column c * vector k (in_b k x n) J)

module _ (p limit k column : ℕ) (power : ℕ → ℕ) (x J : ℕ) {before : List Step} (sound : Sound p limit before)
    (given : (j : ℕ) → j < J → Makes p before (power j) (λ c. delta column c * 2 ^ (k * j)))
    (short : x < 2 ^ (k * J)) (low : x ≤ limit) where
  swept : (n : ℕ) → n < 2 ^ k → Swept p limit k column x J before n (sweep p k power J x before n)
  swept zero h =
      let none : (j : ℕ) → each k x 0 j ≡ 0 = λ j. rounds_none k (digit k x j) (digit_low k x j) in
      let nothing : (f : ℕ → ℕ) → ((j : ℕ) → f j ≡ 0) → (c : ℕ) → 0 ≡ delta column c * vector k f J =
      λ f e c. sym (ap (λ (s : ℕ). delta column c * s) (vector_zero k f J (λ j g. e j)) ∙ mul-zero (delta column c)) in
      record {
        sound = sound;
        begins = begins_own before;
        makes_a = makes_like p _ _ _ _ (λ c g. nothing (each k x 0) none c) (makes_zero p before);
        makes_b = makes_like p _ _ _ _ (λ c g. nothing (in_b k x 0) (λ j. ap sign (none j)) c) (makes_zero p before);
      }
  swept (suc n) h = more (swept n (omega arith))
    where
      r : Sweep
      r = sweep p k power J x before n

      g : Made
      g = gather p k power x (2 ^ k - suc n) J (made r.steps r.b)

      a : ℕ
      a = vector k (each k x n) J

      b : ℕ
      b = vector k (in_b k x (suc n)) J

      sum : a + b ≡ vector k (each k x (suc n)) J
      sum = a_next k x J n

      within : a + b ≤ limit
      within = omega (arith, sum, a_low k x J short (suc n) h)

      more : Swept p limit k column x J before n r → Swept p limit k column x J before (suc n) (sweep p k power J x before (suc n))
      more s =
          record {
            sound = t.sound;
            begins = begins_on s.begins (begins_on gathered.begins t.begins);
            makes_a = t.makes;
            makes_b = makes_on t.begins gathered.makes;
          }
        where
          gathered : Result p limit r.steps g (λ c. delta column c * b)
          gathered =
              let whole = b_next k x J n (omega arith) in
              result_like (λ c i. ap (λ (m : ℕ). delta column c * m) whole)
              (gather_makes p limit k column power x (2 ^ k - suc n) (vector k (in_b k x n) J) (result_value s.sound s.makes_b) J
              (λ j i. makes_on s.begins (given j i)) (omega (arith, within)))

          t : Result p limit g.steps (times p (made g.steps r.a) g.value) (λ c. delta column c * vector k (each k x (suc n)) J)
          t =
              let join : (c : ℕ) → delta column c * a + delta column c * b ≡ delta column c * (a + b) = λ c. sym (mul-add (delta column c) a b) in
              result_like (λ c i. join c ∙ ap (λ (m : ℕ). delta column c * m) sum)
              (result_times (result_value gathered.sound (makes_on gathered.begins s.makes_a)) gathered.makes
              (λ c i. rw (join c) (le_trans (delta_part column c (a + b)) within)))

  -- all rounds: a makes the amount
  pub sweep_makes : Result p limit before (made (sweep p k power J x before (2 ^ k - 1)).steps (sweep p k power J x before (2 ^ k - 1)).a) (λ c. delta column c * x)
  sweep_makes =
      let r = swept (2 ^ k - 1) (omega (arith, pow_pos k)) in
      record {
        sound = r.sound;
        begins = r.begins;
        makes = makes_like p _ _ _ _ (λ c g. ap (λ (m : ℕ). delta column c * m) (a_all k x J short)) r.makes_a;
      }
