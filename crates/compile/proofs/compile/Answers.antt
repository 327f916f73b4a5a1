-- A refusal is passed on with the slices as they were; two short slices are refused; else the chain is emitted and its steps counted.
use Rattle.std.proofs.Common.{◌≡◌, sym, arith, rules, Err, inl, inr}
use Rattle.chain.proofs.Squarings.{found_refused, found_fine, found_number}
use Rattle.compile.proofs.Answers.{compile_refused, too_short, squarings_within, compiled}
use Rattle.compile.proofs.compile.Goals as goal
use Rattle.compile.proofs.compile.Goals.{then-steps-n-via-then-steps-n, then-steps-n-via-else-steps-n+then-outputs-q}

pub returns-in_err-n : goal.returns-in_err-n
returns-in_err-n c =
    let told : c.from_residual.result ≡ Err c.in_err-n.field-0.0 = search rules in
    let leaves =
    compile_refused _ _ _ _ _ c.args.steps.now c.args.outputs.now _ _ (found_refused _ _ _ _ c.in_err-n.ensures.result_value) in
    record { result_value = rw told leaves.0; steps_after = leaves.1.0; outputs_after = leaves.1.1 }

pub returns-then-steps-n : goal.returns-then-steps-n
returns-then-steps-n c =
    let a = c.args in
    let accepted = found_fine _ _ _ c.in_ok-n.ensures.result_value in
    let counted = found_number _ _ _ c.in_ok-n.ensures.result_value in
    let leaves =
    too_short a.p a.q a.amounts.now a.method a.k a.steps.now a.outputs.now _ accepted counted
    (elim c.then-steps-n.branch [
      | then-steps-n-via-then-steps-n w ↦ inl w.if-steps-n.true
      | then-steps-n-via-else-steps-n+then-outputs-q w ↦ inr w.if-outputs-q.true
    ]) in
    record { result_value = rw c.into.ensures leaves.0; steps_after = leaves.1.0; outputs_after = leaves.1.1 }

pub emit-made-requires : goal.emit-made-requires
emit-made-requires c =
    let fits = sym (found_fine _ _ _ c.in_ok-n.ensures.result_value) in
    record {
      asked = record { accepted = fits; measured = c.in_ok-n.ensures.measured_for fits };
      room =
          record {
            steps_fit = omega (arith, found_number _ _ _ c.in_ok-n.ensures.result_value, c.if-steps-n.false);
            outputs_fit = c.if-outputs-q.false;
          };
    }

pub counts_of-requires : goal.counts_of-requires
counts_of-requires c = omega (arith, squarings_within c.emit-made.ensures)

pub returns : goal.returns
returns c =
    let a = c.args in
    let leaves =
    compiled a.p a.q a.amounts.now a.method a.k a.steps.now a.outputs.now _ (found_fine _ _ _ c.in_ok-n.ensures.result_value)
    (found_number _ _ _ c.in_ok-n.ensures.result_value) c.if-steps-n.false c.if-outputs-q.false _ _ _ _ c.emit-made.ensures c.counts_of.ensures in
    record { result_value = leaves.0; steps_after = leaves.1.0; outputs_after = leaves.1.1 }
