-- Both parts have few steps, so they can be added.
use Rattle.std.proofs.Common.{sym, arith}
use Rattle.chain.proofs.Sizes.{length-fits}
use Rattle.pool.proofs.judge_lengths.Goals as goal

pub overflow_add-n1 : goal.overflow_add-n1
overflow_add-n1 c =
    omega (arith, length-fits _ _ (sym c.in_ok-judge_length.ensures), length-fits _ _ (sym c.in_ok-judge_length-2.ensures))
