-- Each payslip has room because all have it.
use Rattle.std.proofs.Common.{rules}
use Rattle.methods.proofs.Paying.{paying_start, paying_room, paying_on, front_room, front_end}
use Rattle.straus.specs.Straus.{straus_payslip}
use Rattle.straus.proofs.Overlaying.{payslip_asked}
use Rattle.straus_emit.proofs.Emitting.{payslip_begins}
use Rattle.straus_emit.proofs.make_payslips.Goals as goal

pub loop-i-init : goal.loop-i-init
loop-i-init c = paying_start _ _ _ _ _ _ (front_room c.requires.room)

pub make_payslip-r-requires : goal.make_payslip-r-requires
make_payslip-r-requires c =
    let asked = c.requires.asked in
    record {
      asked = record { payslip = payslip_asked asked.chain (search rules); bases_are = asked.bases_are };
      room = paying_room (straus_payslip _ _ _) (payslip_begins _ _ _) c.loop-i.invariant (front_room c.requires.room) (search rules);
    }

pub loop-i-preserved : goal.loop-i-preserved
loop-i-preserved c =
    paying_on (straus_payslip _ _ _) (payslip_begins _ _ _) c.loop-i.invariant (front_room c.requires.room) (search rules) c.make_payslip-r.ensures

pub returns : goal.returns
returns c = front_end c.requires.room.outputs_fit c.loop-i.invariant (search rules)
