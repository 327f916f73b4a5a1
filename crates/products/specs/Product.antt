-- Products in the making (Spec 3.1, 3.2).
use Rattle.std.specs.Prelude.{cond, List, [], ◌∷◌, ◌++◌, ℕ, zero, suc, ◌+◌, min, max, length}
use Rattle.chain.specs.Tests.{◌=?◌}
use Rattle.chain.specs.Chain.{Chain, by}
use Rattle.chain.specs.declared.Step.{Step}

-- the steps so far, and the number of a product among their values; 0 is the empty product
pub record Made : Type 0 where
  pub steps : List Step
  pub value : ℕ

abbrev pub made : List Step → ℕ → Made
made steps value = record { steps = steps; value = value }

-- Spec 3.1: the larger value number first
abbrev pub ordered : ℕ → ℕ → Step
ordered a b = by (max a b) (min a b)

-- The product times value y, for p columns: one step more, whose value is p + n + 1 after n steps.
-- Spec 3.1: where one side is empty, the other is the product, and no step is made.
unfoldable pub times : ℕ → Made → ℕ → Made
times p m y =
    cond (m.value =? 0) (made m.steps y)
    (cond (y =? 0) m
    (made (m.steps ++ ordered m.value y ∷ []) (p + length m.steps + 1)))

-- Spec 3.1: squared k times
abbrev pub squared : ℕ → ℕ → Made → Made
squared p zero m = m
squared p (suc k) m = let r = squared p k m in times p r r.value

-- Spec 3.2: the first q payslips in order, slip making each after the steps before it; its product is its output.
-- Of a payslip of zeros the product stays empty.
abbrev pub payslips : (ℕ → List Step → Made) → List Step → ℕ → Chain
payslips slip start zero = record { steps = start; outputs = [] }
payslips slip start (suc q) =
    let before = payslips slip start q in
    let m = slip q before.steps in
    record { steps = m.steps; outputs = before.outputs ++ m.value ∷ [] }
