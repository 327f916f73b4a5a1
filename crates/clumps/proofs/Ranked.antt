-- The numbers below n that pass a test: each stands at the place that counts those before it, and one passes exactly if the sum of the test is not 0.
use mathlib.Core.Path.{◌≡◌, refl, ap, ◌∙◌}
use mathlib.Core.Bool.{Bool, true, false, cond}
use mathlib.Core.List.{[], ◌∷◌, ◌++◌}
use Prim.Native.Nat.{ℕ, zero, suc, ◌≤◌, ◌<◌}
use native.Mathlib.Decide.{dec_lt}
use native.Mathlib.Omega.{arith}
use lib.ListN.{length, get_or, get_or-append}
use lib.Seq.{get_or_at}
use Rattle.chain.specs.Tests.{◌=?◌}
use Rattle.digits.specs.Range.{sum_to, sign}
use Rattle.digits.proofs.Range.{sum_low, sum_more, sign-add, sign_sign}
use Rattle.clumps.specs.Lists.{which, some_below}
use Rattle.clumps.proofs.Totals.{bit, bit_low}
use Rattle.clumps.proofs.Often.{number_tells, often_item, bit_or}
use Rattle.clumps.proofs.Chosen.{often_chosen, chosen_below, chosen-length}

bit_true : (t : Bool) → 0 < bit t → t ≡ true
bit_true true h = refl
bit_true false h = absurd (omega arith)

module _ (test : ℕ → Bool) (n : ℕ) where
  pub which_few : length (which test n) ≤ n
  which_few = omega (arith, chosen-length test n, sum_low n (λ i. bit (test i)) 1 (λ i h. bit_low (test i)))

  -- what stands at a place is below n and passes
  pub which_item : (j : ℕ) → j < length (which test n) → (get_or (which test n) j 0 < n) × (test (get_or (which test n) j 0) ≡ true)
  which_item j h =
      let x : ℕ = get_or (which test n) j 0 in
      let there = often_item ◌=?◌ number_tells (which test n) 0 j h in
      let below : x < n = chosen_below test n x there in
      (below, bit_true (test x) (omega (arith, there, often_chosen test n x below)))

module _ (test : ℕ → Bool) (i : ℕ) (passes : test i ≡ true) where
  pub rank_low : (n : ℕ) → i < n → length (which test i) < length (which test n)
  rank_low n h = omega (arith, chosen-length test i, chosen-length test n, sum_more (λ k. bit (test k)) (suc i) n h, ap bit passes)

  pub rank_at : (n : ℕ) → i < n → get_or (which test n) (length (which test i)) 0 ≡ i
  rank_at zero h = absurd (omega arith)
  rank_at (suc n) h = by_place (rank_at n) (dec_lt i n)
    where
      by_place : (i < n → get_or (which test n) (length (which test i)) 0 ≡ i) → Dec (i < n)
          → get_or (which test n ++ cond (test n) (n ∷ []) []) (length (which test i)) 0 ≡ i
      by_place ih (yes lt) = get_or-append (which test n) _ 0 (length (which test i)) (rank_low n lt) ∙ ih lt
      by_place ih (no ge) =
          let last : n ≡ i = omega arith in
          rw (last, passes) (get_or_at (which test i) i [] 0 (length (which test i)) refl)

-- one passes
pub some-sum : (test : ℕ → Bool) (n : ℕ) → bit (some_below test n) ≡ sign (sum_to n (λ i. bit (test i)))
some-sum test zero = refl
some-sum test (suc n) =
    let s : ℕ = sum_to n (λ i. bit (test i)) in
    bit_or (some_below test n) (test n)
    ∙ omega (arith, sign-add (bit (some_below test n)) (bit (test n)), sign-add s (bit (test n)), ap sign (some-sum test n), sign_sign s)
