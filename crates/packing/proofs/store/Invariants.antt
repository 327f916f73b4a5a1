-- The fields so far stand at the front.
use Rattle.packing.proofs.Stored.{StoredTo}
use Rattle.packing.proofs.store.Given as goal

abbrev pub invariant-loop-i : goal.invariant-loop-i
invariant-loop-i l = StoredTo l.amounts l.fn.bytes l.i l.bytes
