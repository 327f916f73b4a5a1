-- The key so far is the whole key and the weight of the numbers that are left.
use Rattle.std.proofs.Common.{◌-◌, take, drop}
use Rattle.keys.proofs.Weighing.{Weighed}
use Rattle.keys.proofs.key.Given as goal

abbrev pub invariant-loop-x : goal.invariant-loop-x
invariant-loop-x l = Weighed (take (l.to - l.from) (drop l.from l.s)) l.limit l.top l.k l.x-index
