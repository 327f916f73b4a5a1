-- The clumps of the keys so far are rows.
use Rattle.std.proofs.Common.{◌+◌}
use Rattle.rows.specs.Inner.{RowsOver}
use Rattle.keys.specs.Inner.{clump_in}
use Rattle.keys.proofs.lay_rows.Given as goal

abbrev pub invariant-loop-j : goal.invariant-loop-j
invariant-loop-j l = RowsOver l.to l.k l.j l.e (λ j. clump_in l.a l.fn.s (l.keys + j)) l.fn.s l.s
