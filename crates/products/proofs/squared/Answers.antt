-- Each turn has room because the whole has it.
use Rattle.std.proofs.Common.{rules}
use Rattle.products.proofs.Emitters.{squaring}
use Rattle.products.proofs.squared.Goals as goal

pub loop-init : goal.loop-init
loop-init c = search (rules, squaring)

pub times-r-requires : goal.times-r-requires
times-r-requires c = search squaring

pub loop-preserved : goal.loop-preserved
loop-preserved c = search squaring
