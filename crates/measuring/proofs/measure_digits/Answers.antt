-- The cells filled one by one stand before the rest of the slice.
use Rattle.std.proofs.Common.{rules}
use Rattle.methods.proofs.Filling.{front_filled}
use Rattle.measuring.proofs.measure_digits.Goals as goal

pub returns : goal.returns
returns c = search (rules, front_filled)
