-- After c columns the earliest place of 13 is that of the first c, and as long as there is none the table holds their amounts.
use Rattle.std.proofs.Common.{◌≡◌, length}
use Rattle.chain.specs.Chain.{pairs}
use Rattle.verify.specs.Verify.{earliest}
use Rattle.verify.proofs.Columns.{large_in}
use Rattle.listing.specs.Inner.{TableHolds}
use Rattle.listing.proofs.Tables.{at_outputs}
use Rattle.listing.proofs.measure.Given as goal

abbrev pub invariant-loop-c : goal.invariant-loop-c
invariant-loop-c l =
    (l.large ≡ earliest l.c (large_in l.p (pairs l.steps)))
    × (l.large ≡ 0 → TableHolds l.table (length l.outputs) l.c (at_outputs l.p (pairs l.steps) l.outputs))
