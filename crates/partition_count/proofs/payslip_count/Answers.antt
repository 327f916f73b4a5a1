-- The cells hold the numbers of the payslip's parts, so their signs count its nonempty parts.
use Rattle.partition_count.proofs.Joining.{joins_told}
use Rattle.partition_count.proofs.payslip_count.Goals as goal

pub returns : goal.returns
returns c =
    let a = c.args in
    record { is = joins_told a.s a.amounts.now a.i _ _ c.number_parts.ensures _ c.joins.ensures.is; low = c.joins.ensures.low }
