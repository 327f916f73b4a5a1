-- A payslip only appends steps, so there is room for each after those before it.
use Rattle.std.proofs.Common.{rules}
use Rattle.methods.proofs.Paying.{paying_start, paying_room, paying_on}
use Rattle.partition_emit.specs.Inner.{payslip_of}
use Rattle.partition_emit.proofs.Paying.{payslip_begins}
use Rattle.partition_emit.proofs.make_payslips.Goals as goal

pub loop-i-init : goal.loop-i-init
loop-i-init c =
    let a = c.args in
    paying_start a.s.p a.s.q (payslip_of a.s a.amounts.now) a.steps.now a.outputs.now a.progress c.requires.room

pub make_payslip-r-requires : goal.make_payslip-r-requires
make_payslip-r-requires c =
    let a = c.args in
    let asked = c.requires.asked in
    let each = payslip_begins a.s.p a.s.q a.amounts.now a.s.c in
    record {
      ready = record { grouped = asked.grouped; members_are = asked.members_are; room = search rules };
      inside = search rules;
      room = paying_room (payslip_of a.s a.amounts.now) each c.loop-i.invariant c.requires.room c.loop-i-test.true;
    }

pub loop-i-preserved : goal.loop-i-preserved
loop-i-preserved c =
    let a = c.args in
    let each = payslip_begins a.s.p a.s.q a.amounts.now a.s.c in
    paying_on (payslip_of a.s a.amounts.now) each c.loop-i.invariant c.requires.room c.loop-i-test.true c.make_payslip-r.ensures
