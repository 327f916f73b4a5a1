-- The counted squarings are those of the bits; what they make is stored as square_columns promises.
use Rattle.std.proofs.Common.{arith}
use Rattle.group_tables.proofs.Making.{counted_long, counted_squarings}
use Rattle.group_tables.proofs.make_squarings.Goals as goal

pub square_columns-requires : goal.square_columns-requires
square_columns-requires c =
    let long = counted_long c.args.bits.now _ _ c.count_squarings.ensures in
    let same = counted_squarings c.args.bits.now _ _ c.count_squarings.ensures in
    record { asked = omega (arith, c.requires.asked); room = rw same c.requires.room }

pub returns : goal.returns
returns c =
    let same = counted_squarings c.args.bits.now _ _ c.count_squarings.ensures in
    rw same at c.square_columns.ensures
