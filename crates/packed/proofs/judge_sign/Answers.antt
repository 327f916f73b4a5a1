-- Each arm is one of the signs, or none of them.
use Rattle.std.proofs.Common.{arith}
use Rattle.packed.proofs.Judged.{sign_plus, sign_minus, sign_unsigned, sign_none}
use Rattle.packed.proofs.judge_sign.Goals as goal

pub returns-in-12 : goal.returns-in-12
returns-in-12 c = sign_plus _ _ (omega arith)

pub returns-in-15 : goal.returns-in-15
returns-in-15 c = sign_unsigned _ _ (omega arith)

pub returns-in-13 : goal.returns-in-13
returns-in-13 c = sign_minus _ _ (omega arith)

pub returns-in_default : goal.returns-in_default
returns-in_default c = sign_none _ _ (λ e. omega arith) (λ e. omega arith) (λ e. omega arith)
