-- The three cases of a product: a copy of the value, a copy of the product, or one step more.
use Rattle.std.proofs.Common.{rules}
use Rattle.products.proofs.Emitters.{multiplying}
use Rattle.products.proofs.times.Goals as goal

pub returns-then-m-eq0 : goal.returns-then-m-eq0
returns-then-m-eq0 c = search multiplying

pub returns-then-y-eq0 : goal.returns-then-y-eq0
returns-then-y-eq0 c = search multiplying

pub put-requires : goal.put-requires
put-requires c = search multiplying

pub overflow_cast-result : goal.overflow_cast-result
overflow_cast-result c = search (rules, multiplying)

pub returns : goal.returns
returns c = search multiplying
