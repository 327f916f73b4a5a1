-- The numbers of the columns so far fill the cells before at, and first is the last value of their squarings.
use Rattle.std.proofs.Common.{◌≡◌, ◌+◌, length}
use Rattle.chain.specs.Written.{over}
use Rattle.methods.specs.Powers.{counts_of}
use Rattle.digits.specs.Range.{sum_to}
use Rattle.groups.specs.Inner.{bit_inputs, bits_less}
use Rattle.group_tables.proofs.number_inputs.Given as goal

abbrev pub invariant-loop-col : goal.invariant-loop-col
invariant-loop-col l =
    (l.at ≡ sum_to l.col (counts_of l.bits)) × (l.first ≡ length l.bits + sum_to l.col (bits_less l.bits 1))
    × (l.cells ≡ over (bit_inputs l.bits l.col) l.fn.cells)
