-- The payslip's number, its amounts and the newline, one part after the other, are its line.
use Rattle.std.proofs.Common.{◌+◌, arith, rules}
use Rattle.decimal.proofs.Decimal.{decimal_short}
use Rattle.listing.proofs.Lines.{put_line}
use Rattle.listing.proofs.put_payslip.Goals as goal

pub put_decimal-first-requires : goal.put_decimal-first-requires
put_decimal-first-requires c =
    omega (arith, decimal_short 1 (c.args.i + 1) (omega (arith, c.requires.inside)), c.requires.room)

pub put_amounts-end-requires : goal.put_amounts-end-requires
put_amounts-end-requires c =
    let short = decimal_short 1 (c.args.i + 1) (omega (arith, c.requires.inside)) in
    search rules

pub bounds-text-end : goal.bounds-text-end
bounds-text-end c =
    omega (arith, decimal_short 1 (c.args.i + 1) (omega (arith, c.requires.inside)), c.put_decimal-first.ensures.place, c.put_amounts-end.ensures.short, c.requires.p_low, c.put_decimal-first.auto.text, c.put_amounts-end.auto.text, c.requires.room)

pub overflow_add-result : goal.overflow_add-result
overflow_add-result c =
    omega (arith, decimal_short 1 (c.args.i + 1) (omega (arith, c.requires.inside)), c.put_decimal-first.ensures.place, c.put_amounts-end.ensures.short, c.requires.p_low, c.put_decimal-first.auto.text, c.put_amounts-end.auto.text, c.requires.room)

pub returns : goal.returns
returns c =
    let short = decimal_short 1 (c.args.i + 1) (omega (arith, c.requires.inside)) in
    record {
      put = put_line _ _ _ _ _ _ _ _ c.put_decimal-first.ensures c.put_amounts-end.ensures.put (omega (arith, short, c.put_decimal-first.ensures.place, c.put_amounts-end.ensures.short, c.requires.p_low, c.put_decimal-first.auto.text, c.requires.room));
      short = omega (arith, short, c.put_decimal-first.ensures.place, c.put_amounts-end.ensures.short, c.requires.p_low);
    }
