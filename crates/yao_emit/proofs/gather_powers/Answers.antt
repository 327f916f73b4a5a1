-- Each digit and each power has its place, and its step has room because those of all powers have it.
use Rattle.std.proofs.Common.{rules}
use borrow.Author.Rules.{Fits-under}
use Rattle.yao_emit.proofs.Emitting.{power_place, digit_reach, powers_on, gathering}
use Rattle.yao_emit.proofs.gather_powers.Goals as goal

pub loop-i-init : goal.loop-i-init
loop-i-init c = search (rules, gathering)

pub overflow_mul-column : goal.overflow_mul-column
overflow_mul-column c = Fits-under _ _ 32 (digit_reach c.args.column c.loop-i.i c.requires.asked (search rules)) tt

pub power_at-power-requires : goal.power_at-power-requires
power_at-power-requires c = search (rules, power_place)

pub digit-digit-requires : goal.digit-digit-requires
digit-digit-requires c = search (rules, digit_reach)

pub gather_one-r-requires : goal.gather_one-r-requires
gather_one-r-requires c = search gathering

pub loop-i-preserved : goal.loop-i-preserved
loop-i-preserved c =
    powers_on c.args.column _ _ _ _ _ _ _ c.loop-i.invariant _ _ c.digit-digit.ensures c.power_at-power.ensures _ _ _ c.gather_one-r.ensures
