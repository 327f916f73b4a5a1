-- Each payslip has room because all have it.
use Rattle.std.proofs.Common.{rules}
use Rattle.methods.proofs.Paying.{paying_start, paying_room, paying_on, front_room, front_end}
use Rattle.yao_emit.specs.Inner.{yao_slip}
use Rattle.yao_emit.proofs.Paying.{slip_begins}
use Rattle.yao_emit.proofs.make_payslips.Goals as goal

pub loop-i-init : goal.loop-i-init
loop-i-init c = paying_start _ _ _ _ _ _ (front_room c.requires.room)

pub make_payslip-r-requires : goal.make_payslip-r-requires
make_payslip-r-requires c =
    let a = c.args in
    let slip = yao_slip a.p a.q a.amounts.now a.k in
    record {
      asked = search rules;
      room = paying_room slip (slip_begins a.p a.q a.amounts.now a.k) c.loop-i.invariant (front_room c.requires.room) (search rules);
    }

pub loop-i-preserved : goal.loop-i-preserved
loop-i-preserved c =
    let a = c.args in
    let slip = yao_slip a.p a.q a.amounts.now a.k in
    paying_on slip (slip_begins a.p a.q a.amounts.now a.k) c.loop-i.invariant (front_room c.requires.room) (search rules) c.make_payslip-r.ensures

pub returns : goal.returns
returns c = front_end c.requires.room.outputs_fit c.loop-i.invariant (search rules)
