-- The amounts so far are laid over the front.
use Rattle.std.proofs.Common.{map}
use Rattle.chain.proofs.Laying.{LaidTo}
use Rattle.packed.specs.Field.{amount_of, fields_in}
use Rattle.unpacking.proofs.store.Given as goal

abbrev pub invariant-loop-i : goal.invariant-loop-i
invariant-loop-i l = LaidTo (map amount_of (fields_in l.m l.bytes)) 0 l.fn.amounts l.i l.amounts
