-- The cells hold the numbers of the payslip's parts, and the parts by those numbers are the payslip's.
use Rattle.std.proofs.Common.{ℕ, List, take, sym}
use Rattle.products.specs.Inner.{steps_in}
use Rattle.groups.proofs.Measured.{numbers_at, numbers_long}
use Rattle.partition_emit.proofs.Paying.{payslip_is, payslip_numbered}
use Rattle.partition_emit.proofs.make_payslip.Goals as goal

pub make_parts-requires : goal.make_parts-requires
make_parts-requires c =
    let a = c.args in
    let numbers : List ℕ = take a.s.groups c.number_parts.new.cells in
    let at = numbers_at a.s a.amounts.now a.i _ _ c.number_parts.ensures in
    let long = numbers_long a.s a.amounts.now a.i _ _ c.number_parts.ensures in
    let same = payslip_is c.requires.ready a.i numbers at (steps_in a.steps.now a.progress.steps) in
    record { asked = payslip_numbered c.requires.ready a.i numbers at (sym long); room = rw same c.requires.room }

pub returns : goal.returns
returns c =
    let a = c.args in
    let numbers : List ℕ = take a.s.groups c.number_parts.new.cells in
    let at = numbers_at a.s a.amounts.now a.i _ _ c.number_parts.ensures in
    let same = payslip_is c.requires.ready a.i numbers at (steps_in a.steps.now a.progress.steps) in
    rw (← same) c.make_parts.ensures
