-- The check refuses, or the chain is run; each return is one law of `Receiving`.
use Rattle.std.proofs.Common.{◌≡◌, rules, Err}
use Rattle.chain.specs.Chain.{pairs}
use Rattle.receive.proofs.Receiving.{not_passed, then_run}
use Rattle.receive.proofs.receive.Goals as goal

pub returns-in_err-verify : goal.returns-in_err-verify
returns-in_err-verify c =
    let a = c.args in
    let told : c.from_residual.result ≡ Err c.in_err-verify.field-0.0 = search rules in
    let checked = c.in_err-verify.ensures in
    rw told
    (not_passed a.p (pairs a.steps.now) a.outputs.now a.amounts.now a.m a.bases.now a.scratch.now a.values.now a.figures.now _ checked.scratch_after _ _
    checked.result_value)

pub returns : goal.returns
returns c =
    let a = c.args in
    let checked = c.in_ok-verify.ensures in
    let ran = c.run.ensures in
    then_run a.p (pairs a.steps.now) a.outputs.now a.amounts.now a.m a.bases.now a.scratch.now a.values.now a.figures.now _ checked.scratch_after _
    checked.result_value _ _ _ ran.result_value ran.values_after ran.figures_after
