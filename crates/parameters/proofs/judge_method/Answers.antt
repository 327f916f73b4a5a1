-- Each return is an arm of the match, whose numbers choose the line of the rule; what is in no range is below it or above it.
use Rattle.std.proofs.Common.{arith}
use native.Mathlib.Nat.{mul-le-mul_right}
use Rattle.parameters.proofs.Method.{first_fits, first_low, first_high, first_wide, second_fits, second_low, second_high, below_all, above_all}
use Rattle.parameters.proofs.judge_method.Goals as goal
use Rattle.parameters.proofs.judge_method.Goals.{in_default-k-via-then-k-lt1, in_default-k-via-else-k-lt1+else-k-lt6}
use Rattle.parameters.proofs.judge_method.Goals.{in_default-k-2-via-then-k-lt1-2, in_default-k-2-via-else-k-lt1-2+else-k-lt9}
use Rattle.parameters.proofs.judge_method.Goals.{in_default-via-then-method-lt1, in_default-via-else-method-lt1+else-method-lt4}

pub overflow_mul-p : goal.overflow_mul-p
overflow_mul-p c = omega (arith, mul-le-mul_right c.args.k c.requires)

pub returns-then-p-k-gt-STRAUS_BITS : goal.returns-then-p-k-gt-STRAUS_BITS
returns-then-p-k-gt-STRAUS_BITS c = rw c.into.ensures (first_wide _ _ _ (omega arith) (omega arith))

pub returns-else-p-k-gt-STRAUS_BITS : goal.returns-else-p-k-gt-STRAUS_BITS
returns-else-p-k-gt-STRAUS_BITS c = first_fits _ _ _ (omega arith) (omega arith) (omega arith) (omega arith)

pub returns-in-1-to-8 : goal.returns-in-1-to-8
returns-in-1-to-8 c = second_fits _ _ _ (omega arith) (omega arith) (omega arith) (omega arith)

pub returns-in_default-k : goal.returns-in_default-k
returns-in_default-k c =
    rw c.into-in_default-k.ensures
    (elim c.in_default-k.branch [
      | in_default-k-via-then-k-lt1 w ↦ first_low _ _ _ (omega arith) (omega arith)
      | in_default-k-via-else-k-lt1+else-k-lt6 w ↦ first_high _ _ _ (omega arith) (omega arith)
    ])

pub returns-in_default-k-2 : goal.returns-in_default-k-2
returns-in_default-k-2 c =
    rw c.into-in_default-k-2.ensures
    (elim c.in_default-k-2.branch [
      | in_default-k-2-via-then-k-lt1-2 w ↦ second_low _ _ _ (omega arith) (omega arith) (omega arith)
      | in_default-k-2-via-else-k-lt1-2+else-k-lt9 w ↦ second_high _ _ _ (omega arith) (omega arith) (omega arith)
    ])

pub returns-in_default : goal.returns-in_default
returns-in_default c =
    rw c.into-in_default.ensures
    (elim c.in_default.branch [
      | in_default-via-then-method-lt1 w ↦ below_all _ _ _ (omega arith) (omega arith)
      | in_default-via-else-method-lt1+else-method-lt4 w ↦ above_all _ _ _ (omega arith)
    ])
