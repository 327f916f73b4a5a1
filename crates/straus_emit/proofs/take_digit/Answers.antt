-- Two emitters one after the other: the squarings, then the product.
use Rattle.straus_emit.proofs.Emitting.{taking}
use Rattle.straus_emit.proofs.take_digit.Goals as goal

pub squared-s-requires : goal.squared-s-requires
squared-s-requires c = search taking

pub times-requires : goal.times-requires
times-requires c = search taking

pub returns : goal.returns
returns c = search taking
