-- At each turn the verdict on all fields is the verdict on those that are left.
use Rattle.std.proofs.Common.{◌≡◌}
use Rattle.chain.specs.Verdict.{in_order}
use Rattle.packed.specs.Field.{field_rule, fields_in}
use Rattle.unpacking.proofs.Judging.{fields_left}
use Rattle.unpacking.proofs.judge_fields.Given as goal

abbrev pub invariant-loop-i : goal.invariant-loop-i
invariant-loop-i l = in_order field_rule 1 (fields_in l.m l.bytes) ≡ fields_left l.bytes l.m l.i
