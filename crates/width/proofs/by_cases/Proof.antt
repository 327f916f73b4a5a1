-- In each case of the code the number lies between two powers of two, and so has the width that stands there.
use native.Mathlib.Omega.{arith}
use Rattle.width.proofs.Cases.{in_case, no_case_below, no_case_above}
use Rattle.width.proofs.by_cases.Statement.{statement}
use Rattle.width.proofs.by_cases.Tie as tie

pub by_cases_spec : {M : Type 1} → statement M
by_cases_spec =
    tie.close
    (tie.spec
    (λ c. in_case _ _ (omega arith) (omega arith) (omega arith) (omega arith)) (λ c. in_case _ _ (omega arith) (omega arith) (omega arith) (omega arith))
    (λ c. in_case _ _ (omega arith) (omega arith) (omega arith) (omega arith)) (λ c. in_case _ _ (omega arith) (omega arith) (omega arith) (omega arith))
    (λ c. in_case _ _ (omega arith) (omega arith) (omega arith) (omega arith)) (λ c. in_case _ _ (omega arith) (omega arith) (omega arith) (omega arith))
    (λ c. in_case _ _ (omega arith) (omega arith) (omega arith) (omega arith)) (λ c. in_case _ _ (omega arith) (omega arith) (omega arith) (omega arith))
    (λ c. in_case _ _ (omega arith) (omega arith) (omega arith) (omega arith)) (λ c. in_case _ _ (omega arith) (omega arith) (omega arith) (omega arith))
    (λ c. in_case _ _ (omega arith) (omega arith) (omega arith) (omega arith)) (λ c. in_case _ _ (omega arith) (omega arith) (omega arith) (omega arith))
    (λ c. in_case _ _ (omega arith) (omega arith) (omega arith) (omega arith)) (λ c. in_case _ _ (omega arith) (omega arith) (omega arith) (omega arith))
    (λ c. no_case_below _ (omega arith)) (λ c. no_case_above _ (omega arith)))
