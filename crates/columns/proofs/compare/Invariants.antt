-- At each turn the first payslip that differs is the first among those that are left.
use Rattle.std.proofs.Common.{◌≡◌}
use Rattle.verify.specs.Verify.{first_other}
use Rattle.verify.proofs.Other.{other_left}
use Rattle.columns.proofs.compare.Given as goal

abbrev pub invariant-loop-i : goal.invariant-loop-i
invariant-loop-i l =
    first_other l.p l.c l.amounts l.scratch 0 l.outputs ≡ other_left l.p l.c l.amounts l.scratch l.outputs l.i
