-- The two cases of the definition: a product where the digit is d, else nothing.
use Rattle.yao_emit.proofs.Emitting.{gathering_one}
use Rattle.yao_emit.proofs.gather_one.Goals as goal

pub times-requires : goal.times-requires
times-requires c = search gathering_one

pub returns-then-digit-d : goal.returns-then-digit-d
returns-then-digit-d c = search gathering_one

pub returns-else-digit-d : goal.returns-else-digit-d
returns-else-digit-d c = search gathering_one
