-- The amounts laid one over the other have the digits of the largest.
use Rattle.straus.proofs.Overlaying.{digits_told, digits_fit}
use Rattle.straus_emit.proofs.digit_count.Goals as goal

pub returns : goal.returns
returns c = search (digits_told, digits_fit)
