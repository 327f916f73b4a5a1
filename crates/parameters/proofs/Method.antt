-- The rule of methods and parameters, arm by arm of the code's match: each arm's numbers choose one line of the rule.
use mathlib.Core.Path.{◌≡◌, refl, sym, ◌∙◌}
use mathlib.Core.Bool.{true}
use Prim.Native.Nat.{ℕ, ◌*◌, ◌≤◌, ◌<◌}
use native.Mathlib.Decide.{ℕ_discrete}
use native.Mathlib.Omega.{arith}
use Rattle.chain.specs.Tests.{◌<?◌, ◌or◌}
use Rattle.chain.specs.Verdict.{fine, refused, refuse_if}
use Rattle.chain.proofs.Rules.{refuse_yes, refuse_no, lt_yes, lt_no, or_left, or_right, or_none, eq_yes, eq_no}
use Rattle.straus.specs.Straus.{straus_most, straus_most_bits}
use Rattle.yao.specs.Yao.{yao_most}
use Rattle.parameters.specs.Parameters.{outside, method_rule}

module _ (p method k : ℕ) where
  pub is_one : method ≡ 1 → method_rule p method k ≡ refuse_if (outside 1 straus_most k or straus_most_bits <? p * k) 3 0
  unfolding method_rule
  is_one e = rw (eq_yes method 1 e)

  -- methods 2 and 3 have one range
  pub is_more : 2 ≤ method → method ≤ 3 → method_rule p method k ≡ refuse_if (outside 1 yao_most k) 3 0
  unfolding method_rule
  is_more h g = by_number (ℕ_discrete method 2)
    where
      by_number : Dec (method ≡ 2) → method_rule p method k ≡ refuse_if (outside 1 yao_most k) 3 0
      by_number (yes e) = rw (eq_no method 1 (omega arith), eq_yes method 2 e)
      by_number (no e) = let three : method ≡ 3 = omega arith in rw (eq_no method 1 (omega arith), eq_no method 2 e, eq_yes method 3 three)

  pub is_none : (method ≡ 1 → ⊥) → (method ≡ 2 → ⊥) → (method ≡ 3 → ⊥) → method_rule p method k ≡ refuse_if true 3 0
  unfolding method_rule
  is_none a b c = rw (eq_no method 1 a, eq_no method 2 b, eq_no method 3 c)

  -- what each return of the code says, from the arm that it stands in
  pub first_fits : method ≡ 1 → 1 ≤ k → k ≤ straus_most → p * k ≤ straus_most_bits → fine ≡ method_rule p method k
  first_fits e low high few =
      refuse_no _ 3 0 (or_none _ _ (or_none _ _ (lt_no k 1 low) (lt_no straus_most k high)) (lt_no straus_most_bits (p * k) few)) ∙ sym (is_one e)

  pub first_low : method ≡ 1 → k < 1 → refused 3 0 ≡ method_rule p method k
  first_low e low = refuse_yes _ 3 0 (or_left _ _ (or_left _ _ (lt_yes k 1 low))) ∙ sym (is_one e)

  pub first_high : method ≡ 1 → straus_most < k → refused 3 0 ≡ method_rule p method k
  first_high e high = refuse_yes _ 3 0 (or_left _ _ (or_right _ _ (lt_yes straus_most k high))) ∙ sym (is_one e)

  pub first_wide : method ≡ 1 → straus_most_bits < p * k → refused 3 0 ≡ method_rule p method k
  first_wide e wide = refuse_yes _ 3 0 (or_right _ _ (lt_yes straus_most_bits (p * k) wide)) ∙ sym (is_one e)

  pub second_fits : 2 ≤ method → method ≤ 3 → 1 ≤ k → k ≤ yao_most → fine ≡ method_rule p method k
  second_fits h g low high = refuse_no _ 3 0 (or_none _ _ (lt_no k 1 low) (lt_no yao_most k high)) ∙ sym (is_more h g)

  pub second_low : 2 ≤ method → method ≤ 3 → k < 1 → refused 3 0 ≡ method_rule p method k
  second_low h g low = refuse_yes _ 3 0 (or_left _ _ (lt_yes k 1 low)) ∙ sym (is_more h g)

  pub second_high : 2 ≤ method → method ≤ 3 → yao_most < k → refused 3 0 ≡ method_rule p method k
  second_high h g high = refuse_yes _ 3 0 (or_right _ _ (lt_yes yao_most k high)) ∙ sym (is_more h g)

  pub below_all : method < 2 → (method ≡ 1 → ⊥) → refused 3 0 ≡ method_rule p method k
  below_all h a = refuse_yes _ 3 0 refl ∙ sym (is_none a (λ e. omega arith) (λ e. omega arith))

  pub above_all : 3 < method → refused 3 0 ≡ method_rule p method k
  above_all h = refuse_yes _ 3 0 refl ∙ sym (is_none (λ e. omega arith) (λ e. omega arith) (λ e. omega arith))
