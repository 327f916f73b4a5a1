-- All digits but the last are those of the tenth, written by the call before; the last is the remainder.
use Rattle.std.proofs.Common.{arith}
use Rattle.decimal.proofs.Decimal.{digit-length, more-length}
use Rattle.decimal.proofs.Putting.{put_digit, put_digits}
use Rattle.decimal.proofs.+put_decimal.Goals as goal

pub bounds-text-at : goal.bounds-text-at
bounds-text-at t c = omega (arith, digit-length _ c.if-x-lt10.true, c.requires)

pub returns-then-x-lt10 : goal.returns-then-x-lt10
returns-then-x-lt10 t c = put_digit _ _ _ c.if-x-lt10.true c.requires

pub put_decimal-end-requires : goal.put_decimal-end-requires
put_decimal-end-requires t c = (omega (arith, c.decreases, c.if-x-lt10.false), omega (arith, more-length _ c.if-x-lt10.false, c.requires))

pub bounds-text-end : goal.bounds-text-end
bounds-text-end t c =
    let wrote = c.put_decimal-end in
    omega (arith, more-length _ c.if-x-lt10.false, c.requires, wrote.ensures.place, wrote.auto.text)

pub overflow_add-result-2 : goal.overflow_add-result-2
overflow_add-result-2 t c =
    let wrote = c.put_decimal-end in
    omega (arith, more-length _ c.if-x-lt10.false, c.requires, wrote.ensures.place, c.well_formed.1.1.0.0)

pub returns : goal.returns
returns t c = put_digits _ _ _ _ _ c.if-x-lt10.false c.requires c.put_decimal-end.ensures
