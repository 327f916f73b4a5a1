-- The word, the number and the newline are the one line of a refusal.
use Rattle.std.proofs.Common.{arith}
use Rattle.decimal.proofs.Decimal.{decimal_short}
use Rattle.listing.proofs.Lines.{put_refusal}
use Rattle.listing.proofs.put_refused.Goals as goal

pub put_decimal-end-requires : goal.put_decimal-end-requires
put_decimal-end-requires c =
    omega (arith, decimal_short 9 c.args.number (omega (arith, c.ranges.number.fits)), c.put_word-first.ensures.place, c.put_word-first.auto.text, c.requires)

pub bounds-text-end : goal.bounds-text-end
bounds-text-end c =
    omega (arith, decimal_short 9 c.args.number (omega (arith, c.ranges.number.fits)), c.put_word-first.ensures.place, c.put_decimal-end.ensures.place, c.put_word-first.auto.text, c.put_decimal-end.auto.text, c.requires)

pub overflow_add-result : goal.overflow_add-result
overflow_add-result c =
    omega (arith, decimal_short 9 c.args.number (omega (arith, c.ranges.number.fits)), c.put_word-first.ensures.place, c.put_decimal-end.ensures.place)

pub returns : goal.returns
returns c =
    put_refusal _ _ _ _ _ _ c.put_word-first.ensures c.put_decimal-end.ensures
    (omega (arith, decimal_short 9 c.args.number (omega (arith, c.ranges.number.fits)), c.put_word-first.ensures.place, c.put_decimal-end.ensures.place, c.put_word-first.auto.text, c.requires))
