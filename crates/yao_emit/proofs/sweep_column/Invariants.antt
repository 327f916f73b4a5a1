-- One d a turn, from the largest down: the two products after the rounds so far.
use Rattle.std.proofs.Common.{◌-◌, ◌≤◌}
use Rattle.products.specs.Inner.{steps_in}
use Rattle.yao_emit.specs.Inner.{sweep_in, SweepEmitted}
use Rattle.yao_emit.proofs.sweep_column.Given as goal

abbrev pub invariant-loop-d : goal.invariant-loop-d
invariant-loop-d l = record {
  some : 1 ≤ l.d;
  swept : SweepEmitted l.fn.steps l.steps l.s.progress l.s.a l.s.b
      (sweep_in l.column (steps_in l.fn.steps l.fn.progress.steps) (l.initial.d - l.d));
}
