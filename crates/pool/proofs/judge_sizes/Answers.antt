-- Both parts have few payslips, so they can be added.
use Rattle.std.proofs.Common.{arith}
use Rattle.chain.proofs.Sizes.{payslips_low}
use Rattle.pool.proofs.judge_sizes.Goals as goal

pub overflow_add-q1 : goal.overflow_add-q1
overflow_add-q1 c = omega (arith, payslips_low _ _ c.in_ok-judge_sizes.ensures, payslips_low _ _ c.in_ok-judge_sizes-2.ensures)
