-- Each column's squarings have room because all have it.
use Rattle.std.proofs.Common.{rules}
use Rattle.methods.proofs.Columns.{squaring_columns}
use Rattle.methods.proofs.square_columns.Goals as goal

pub loop-c-init : goal.loop-c-init
loop-c-init c = search (rules, squaring_columns)

pub squared-requires : goal.squared-requires
squared-requires c = search squaring_columns

pub loop-c-preserved : goal.loop-c-preserved
loop-c-preserved c = search squaring_columns
