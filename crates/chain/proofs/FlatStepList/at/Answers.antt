-- Step s of a flat list stands at 2s and 2s + 1.
use Rattle.std.proofs.Common.{◌∙◌, sym, arith}
use Rattle.chain.specs.Inner.{step_at}
use Rattle.chain.proofs.Pairs.{length_pairs, get_d_pairs}
use Rattle.chain.proofs.FlatStepList.at.Goals as goal

pub step_at-requires : goal.step_at-requires
step_at-requires c = omega (arith, length_pairs c.args.self.now.numbers.now)

pub returns : goal.returns
unfolding step_at
returns c = c.step_at.ensures ∙ sym (get_d_pairs c.args.self.now.numbers.now c.args.s (omega (arith, length_pairs c.args.self.now.numbers.now)))
