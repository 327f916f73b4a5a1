-- Each turn tests one output and moves past it.
use Rattle.std.proofs.Common.{arith}
use Rattle.reading.proofs.Judging.{outputs_within, outputs_start, output_room_lem, output_bad, output_on, outputs_end}
use Rattle.reading.proofs.judge_outputs.Goals as goal

pub overflow_mul-c : goal.overflow_mul-c
overflow_mul-c c = record { fits = omega (arith, c.requires.proper.top) }

pub overflow_mul-c-2 : goal.overflow_mul-c-2
overflow_mul-c-2 c = let x = c.requires.proper in record { fits = omega (arith, x.parts, x.low) }

pub overflow_add-c : goal.overflow_add-c
overflow_add-c c = let x = c.requires.proper in record { fits = omega (arith, x.parts, x.low) }

pub loop-i-init : goal.loop-i-init
loop-i-init c = outputs_start _ _ _ _ _ (outputs_within _ _ c.requires)

pub take-output-requires : goal.take-output-requires
take-output-requires c = output_room_lem _ _ _ _ _ _ _ c.loop-i.invariant c.loop-i-test.true

pub returns-then-top-output : goal.returns-then-top-output
returns-then-top-output c = output_bad _ _ _ _ _ _ _ c.loop-i.invariant c.loop-i-test.true _ _ c.take-output.ensures c.if-top-output.true

pub loop-i-preserved : goal.loop-i-preserved
loop-i-preserved c = output_on _ _ _ _ _ _ _ c.loop-i.invariant c.loop-i-test.true _ _ c.take-output.ensures c.if-top-output.false

pub returns : goal.returns
returns c = outputs_end _ _ _ _ _ _ _ c.loop-i.invariant c.loop-i-test.false
