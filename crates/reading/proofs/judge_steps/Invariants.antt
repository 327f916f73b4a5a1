-- The verdict on all steps is the verdict on those from the cursor on, and all squarings are those counted and those left.
use Rattle.chain.specs.Chain.{steps_rule, squarings_of}
use Rattle.reading.specs.Inner.{file_steps}
use Rattle.reading.proofs.Judging.{StepsLeft}
use Rattle.reading.proofs.judge_steps.Given as goal

abbrev pub invariant-loop-s : goal.invariant-loop-s
invariant-loop-s l =
    StepsLeft (steps_rule l.x.p 1 (file_steps l.bytes l.x)) (squarings_of (file_steps l.bytes l.x)) l.bytes l.x.p l.x.width l.x.n l.c.at l.s l.squarings
