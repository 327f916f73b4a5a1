-- Laid out, the amounts have the payslip's vectors in their cells, and so their digits make the payslip.
use Rattle.std.proofs.Common.{rules}
use Rattle.products.specs.Inner.{steps_in}
use Rattle.straus_emit.proofs.Vectors.{columns_few, digits_asked, payslip_is}
use Rattle.straus_emit.proofs.make_payslip.Goals as goal

pub raise_amounts-requires : goal.raise_amounts-requires
raise_amounts-requires c =
    let payslip = c.requires.asked.payslip in
    record { asked = payslip; room = columns_few payslip }

pub fill_masks-requires : goal.fill_masks-requires
fill_masks-requires c =
    let payslip = c.requires.asked.payslip in
    record { asked = payslip.vectors_low; room = columns_few payslip }

pub take_digits-requires : goal.take_digits-requires
take_digits-requires c =
    let asked = c.requires.asked in
    let few = columns_few asked.payslip in
    let raised = c.raise_amounts.ensures in
    let masked = c.fill_masks.ensures in
    record {
      asked = digits_asked asked _ _ _ _ raised masked _ c.digit_count-digits.ensures.places_low (search (rules, few)) (search (rules, few));
      room = rw (payslip_is asked _ _ _ _ raised masked _ c.digit_count-digits.ensures.is _) c.requires.room;
    }

pub returns : goal.returns
returns c =
    let before = steps_in c.args.steps.now c.args.progress.steps in
    let is = payslip_is c.requires.asked _ _ _ _ c.raise_amounts.ensures c.fill_masks.ensures _ c.digit_count-digits.ensures.is before in
    rw (← is) c.take_digits.ensures
