-- What is found before the steps, then of the rest of the chain: together the check's rule.
use Rattle.std.proofs.Common.{◌∙◌, sym, refl, ap}
use Rattle.chain.specs.Verdict.{Verdict}
use Rattle.chain.specs.Chain.{squarings_of}
use Rattle.chain.specs.Inner.{counted_by}
use Rattle.verify.proofs.Parts.{fitting_told, started}
use Rattle.rest.proofs.Rest.{end_asked}
use Rattle.checker.proofs.judge.Goals as goal

pub judge_rest-requires : goal.judge_rest-requires
judge_rest-requires g c e = end_asked (started _ _ _ _ (sym (rw c.count.ensures at c.judge_start-begun.ensures) ∙ e)).shape

pub returns : goal.returns
returns g c =
    let steps = g.S.StepList.list c.args.steps.now in
    let begun = rw c.count.ensures at c.judge_start-begun.ensures in
    c.judge_rest.ensures ∙ ap (λ (v : Verdict). counted_by v (squarings_of steps)) (fitting_told _ steps _ _ _ _ _ begun refl)
