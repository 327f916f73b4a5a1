-- One entry a turn: the table grew by the row's entries so far, a step each.
use Rattle.std.proofs.Common.{◌≡◌, ◌+◌, ◌-◌}
use Rattle.products.specs.Inner.{SoFar}
use Rattle.tables.specs.Inner.{Longer}
use Rattle.tables.proofs.make_row.Given as goal

abbrev pub invariant-loop-t : goal.invariant-loop-t
invariant-loop-t l = record {
  counted : l.s.steps ≡ l.fn.progress.steps + (l.t - l.initial.t);
  so_far : SoFar l.steps l.s;
  grown : Longer l.k l.inputs l.at l.fn.steps l.fn.progress l.initial.t l.steps l.s l.t;
}
