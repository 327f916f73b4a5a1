-- 5 is the only rule of the check that looks at the scratch, and it finds nothing in either of two that are large enough.
use mathlib.Core.Path.{◌≡◌, sym, ◌∙◌}
use mathlib.Core.List.{List}
use Prim.Native.Nat.{ℕ, ◌≤◌}
use lib.ListN.{length}
use Rattle.chain.specs.declared.Step.{Step}
use Rattle.chain.proofs.Rules.{lt_no}
use Rattle.verify.specs.Verify.{scratch_size, fitting_rule, verify_rule}
use Rattle.layout.proofs.Lent.{then_under, then_same, same_test}

pub verify_any : (p : ℕ) (steps : List Step) (outputs amounts : List ℕ) (x y : ℕ) → scratch_size p (length steps) ≤ x → scratch_size p (length steps) ≤ y
    → verify_rule p steps outputs amounts x ≡ verify_rule p steps outputs amounts y
unfolding verify_rule fitting_rule
verify_any p steps outputs amounts x y hx hy =
    then_same _ _ _
    (then_under _ _ _ (λ a. then_under _ _ _ (λ b. then_under _ _ _ (λ c. same_test _ _ 5 0 (lt_no x _ hx ∙ sym (lt_no y _ hy))))))
