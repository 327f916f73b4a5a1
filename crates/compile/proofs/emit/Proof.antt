-- Each arm's method is the one that the number names, so its chain is the one asked for; what an arm asks was promised with acceptance.
use borrow.Author.Rules.{rules}
use mathlib.Core.Path.{◌≡◌}
use native.Mathlib.Omega.{arith}
use Rattle.methods.specs.Method.{Method}
use Rattle.methods.specs.Inner.{ChainRoom}
use Rattle.quote.specs.ByMethod.{method_of}
use Rattle.quote.proofs.Fits.{first_asks, other_asks}
use Rattle.compile.proofs.Fits.{Accepted, accepted}
use Rattle.quote.proofs.ByMethod.{is_straus, is_yao, is_partition, same_count}
use Rattle.compile.proofs.ByMethod.{emitted}
use Rattle.compile.proofs.emit.Statement.{statement}
use Rattle.compile.proofs.emit.Tie as tie

-- what the caller promises: the sheet, the method and the parameter are accepted, and there is room for the method's chain
given : (s : tie.Start) → Accepted s.args.p s.args.q s.args.amounts.now s.args.method s.args.k
given s = accepted _ _ _ _ _ s.requires.asked.accepted

room : (s : tie.Start) (m : Method) → method_of s.args.p s.args.q s.args.amounts.now s.args.method s.args.k ≡ m
    → ChainRoom s.args.q m.count s.args.steps.now s.args.outputs.now
room s m is =
    let counted = same_count is in
    let lent = s.requires.room in
    record { short = omega (arith, (given s).short); lent = record { steps_fit = omega (arith, lent.steps_fit); outputs_fit = lent.outputs_fit } }

emit-requires : tie.Need-emit-requires
emit-requires c κs =
    let s = c.before.before.before.before.before.before.before in
    record { asked = first_asks (given s).ranges (omega arith); room = room s _ (is_straus _ _ _ _ _ (omega arith)) }

emit-requires-2 : tie.Need-emit-requires-in-2
emit-requires-2 c κs =
    let s = c.before.before.before.before.before.before.before in
    record { asked = other_asks (given s).ranges c.requires.asked.measured (λ e. omega arith); room = room s _ (is_yao _ _ _ _ _ (omega arith)) }

emit-requires-3 : tie.Need-emit-requires-in_default
emit-requires-3 c κs =
    let s = c.before.before.before.before.before.before.before in
    record {
      asked = other_asks (given s).ranges c.requires.asked.measured (λ e. omega arith);
      room = room s _ (is_partition _ _ _ _ _ (λ e. omega arith) (λ e. omega arith));
    }

same_length : tie.Need-shape_of-steps-in-1
same_length c = search rules

same-length-2 : tie.Need-shape_of-outputs-in-1
same-length-2 c = search rules

returns : tie.Need-returns-in-1
returns c = emitted (is_straus _ _ _ _ _ (omega arith)) c.emit.ensures

same-length-3 : tie.Need-shape_of-steps-in-2
same-length-3 c = search rules

same-length-4 : tie.Need-shape_of-outputs-in-2
same-length-4 c = search rules

returns-2 : tie.Need-returns-in-2
returns-2 c = emitted (is_yao _ _ _ _ _ (omega arith)) c.emit-in-2.ensures

same-length-5 : tie.Need-shape_of-steps-in_default
same-length-5 c = search rules

same-length-6 : tie.Need-shape_of-outputs-in_default
same-length-6 c = search rules

returns-3 : tie.Need-returns-in_default
returns-3 c =
    emitted (is_partition _ _ _ _ _ (λ e. omega arith) (λ e. omega arith)) c.emit-in_default.ensures

pub emit_spec : {M : Type 1} → statement M
emit_spec =
    tie.close
    (tie.spec
    emit-requires
    emit-requires-2
    emit-requires-3
    same_length
    same-length-2
    returns
    same-length-3
    same-length-4
    returns-2
    same-length-5
    same-length-6
    returns-3)
