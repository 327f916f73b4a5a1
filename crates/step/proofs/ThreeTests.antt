-- Three tests tell a legal step from any other: they imply all that a legal step keeps to, and it keeps to each of them.
use mathlib.Core.Path.{◌≡◌, refl, sym, ap}
use Prim.Native.Nat.{ℕ, ◌≤◌, ◌<◌}
use native.Mathlib.Omega.{arith}
use Rattle.chain.specs.Verdict.{Verdict, fine, refused}
use Rattle.chain.specs.Chain.{by, step_rule}
use Rattle.chain.proofs.Rules.{judging}
use Rattle.chain.proofs.Steps.{LegalStep, step_legal, legal_step}
use Rattle.step.specs.Inner.{passed}

pub three_tests : (v s a b : ℕ) → (b ≡ 0 → ⊥) → b ≤ a → a < v → fine ≡ step_rule v s (by a b)
three_tests v s a b some in_order low =
    let b_some : 0 < b = omega arith in
    sym
    (legal_step v s (by a b)
    (record { first_some = omega arith; second_some = b_some; first_low = low; second_low = omega arith; in_order = in_order }))

pub ruleset judging_step = (judging, three_tests)

-- what is counted for the step
module _ (v a b : ℕ) where
  pub counts_one : (b ≡ 0 → ⊥) → b ≤ a → a < v → (s : ℕ) → 1 ≡ passed (step_rule v s (by a b))
  unfolding passed
  counts_one some in_order low s = ap passed (three_tests v s a b some in_order low)

  counts_none : (LegalStep v (by a b) → ⊥) → (s : ℕ) → 0 ≡ passed (step_rule v s (by a b))
  unfolding passed
  counts_none not-legal s = by_verdict (step_rule v s (by a b)) (λ e. not-legal (step_legal v s (by a b) e))
    where
      by_verdict : (w : Verdict) → (w ≡ fine → ⊥) → 0 ≡ passed w
      by_verdict fine not_fine = absurd (not_fine refl)
      by_verdict (refused n s) not_fine = refl

  pub second_none : b ≡ 0 → (s : ℕ) → 0 ≡ passed (step_rule v s (by a b))
  second_none e = counts_none (λ l. omega (arith, l.second_some))

  pub out_of_order : a < b → (s : ℕ) → 0 ≡ passed (step_rule v s (by a b))
  out_of_order h = counts_none (λ l. omega (arith, l.in_order))

  pub not_before : v ≤ a → (s : ℕ) → 0 ≡ passed (step_rule v s (by a b))
  not_before h = counts_none (λ l. omega (arith, l.first_low))

pub ruleset counting_step = (counts_one, second_none, out_of_order, not_before)
