-- At each turn the verdict on all numbers is the verdict on those that are left.
use Rattle.std.proofs.Common.{◌≡◌}
use Rattle.chain.specs.Chain.{limit_rule}
use Rattle.chain.proofs.Limits.{numbers_left}
use Rattle.limit.proofs.judge_numbers.Given as goal

abbrev pub invariant-loop-i : goal.invariant-loop-i
invariant-loop-i l =
    limit_rule l.number l.most 1 l.numbers ≡ numbers_left l.number l.most l.numbers l.i
