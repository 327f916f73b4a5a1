-- The place told of the second part is one of its outputs.
use Rattle.pool.proofs.Places.{outputs_place_low}
use Rattle.std.proofs.Common.{arith}
use Rattle.pool.proofs.judge_outputs.Goals as goal

pub count_on-requires : goal.count_on-requires
count_on-requires c =
    record {
      before_low = omega (arith, c.requires.q_low);
      place_low = outputs_place_low _ c.args.outputs2.now _ c.in-Err.ensures c.requires.q'_low;
    }
