-- The verdict on all outputs is the verdict on those from the cursor on.
use Rattle.chain.specs.Chain.{outputs_rule}
use Rattle.reading.specs.Inner.{file_outputs}
use Rattle.reading.proofs.Judging.{OutputsLeft}
use Rattle.reading.proofs.judge_outputs.Given as goal

abbrev pub invariant-loop-i : goal.invariant-loop-i
invariant-loop-i l = OutputsLeft (outputs_rule l.top 1 (file_outputs l.bytes l.x)) l.bytes l.top l.x.width l.x.q l.c.at l.i
