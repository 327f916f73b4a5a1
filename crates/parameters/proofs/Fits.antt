-- A rule that is fine rules out its refusals: so the method's number is one of the three, and the parameter is in its range.
use mathlib.Core.Path.{◌≡◌, refl, sym, ◌∙◌}
use Prim.Native.Nat.{ℕ, ◌*◌, ◌≤◌}
use native.Mathlib.Decide.{ℕ_discrete}
use native.Mathlib.Omega.{arith}
use Rattle.chain.specs.Verdict.{fine}
use Rattle.chain.proofs.Rules.{not_fine, refuse_if_fine, refuse_yes, neither, not_lt}
use Rattle.straus.specs.Straus.{straus_most, straus_most_bits}
use Rattle.yao.specs.Yao.{yao_most}
use Rattle.parameters.specs.Parameters.{method_rule}
use Rattle.parameters.proofs.Method.{is_one, is_more, is_none}

-- the parameter is in the range of its method
pub record Fits (p method k : ℕ) : Type 0 where
  pub one : method ≡ 1 → (1 ≤ k) × (k ≤ straus_most) × (p * k ≤ straus_most_bits)
  pub more : (method ≡ 1 → ⊥) → (2 ≤ method) × (method ≤ 3) × (1 ≤ k) × (k ≤ yao_most)

pub method_fits : (p method k : ℕ) → method_rule p method k ≡ fine → Fits p method k
method_fits p method k e = record { one = ranged_one; more = λ other. by_number other (ℕ_discrete method 2) (ℕ_discrete method 3) }
  where
    ranged_one : method ≡ 1 → (1 ≤ k) × (k ≤ straus_most) × (p * k ≤ straus_most_bits)
    ranged_one is =
        let t = neither _ _ (refuse_if_fine _ 3 0 (sym (is_one p method k is) ∙ e)) in
        let u = neither _ _ t.0 in
        (not_lt _ _ u.0, not_lt _ _ u.1, not_lt _ _ t.1)

    ranged : 2 ≤ method → method ≤ 3 → (2 ≤ method) × (method ≤ 3) × (1 ≤ k) × (k ≤ yao_most)
    ranged h g =
        let u = neither _ _ (refuse_if_fine _ 3 0 (sym (is_more p method k h g) ∙ e)) in
        (h, g, not_lt _ _ u.0, not_lt _ _ u.1)

    by_number : (method ≡ 1 → ⊥) → Dec (method ≡ 2) → Dec (method ≡ 3) → (2 ≤ method) × (method ≤ 3) × (1 ≤ k) × (k ≤ yao_most)
    by_number other (yes two) three = ranged (omega arith) (omega arith)
    by_number other (no two) (yes three) = ranged (omega arith) (omega arith)
    by_number other (no two) (no three) = absurd (not_fine (refuse_yes _ 3 0 refl ∙ sym (is_none p method k other two three) ∙ e))
