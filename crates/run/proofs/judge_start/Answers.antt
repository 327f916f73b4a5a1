-- Each return is the verdict of the rules up to it, in their order.
use Rattle.chain.proofs.Rules.{pass, refuse_yes, refuse_no, eq_no, ne_yes, ne_no, or_left, or_right, or_none}
use Rattle.run.specs.Inner.{start_rule}
use Rattle.run.proofs.Bases.{some_not_below, none_not_below}
use Rattle.run.proofs.judge_start.Goals as goal
use Rattle.run.proofs.judge_start.Goals.{then-bases-p-via-then-bases-p, then-bases-p-via-else-bases-p+then-any_not_below}

pub returns-then-bases-p : goal.returns-then-bases-p
unfolding start_rule
returns-then-bases-p c =
    rw c.into-then-bases-p.ensures
    (pass _ _ _ c.in_ok-judge_shape.ensures
    (pass _ _ _ (refuse_no _ _ _ (eq_no _ _ c.if-m-eq0.false))
    (refuse_yes _ _ _ (elim c.then-bases-p.branch [
      | then-bases-p-via-then-bases-p w ↦ or_left _ _ (ne_yes _ _ w.if-bases-p.true)
      | then-bases-p-via-else-bases-p+then-any_not_below w ↦ or_right _ _ (some_not_below _ _ w.if-any_not_below.ensures)
    ]))))

pub returns : goal.returns
unfolding start_rule
returns c =
    pass _ _ _ c.in_ok-judge_shape.ensures
    (pass _ _ _ (refuse_no _ _ _ (eq_no _ _ c.if-m-eq0.false))
    (refuse_no _ _ _ (or_none _ _ (ne_no _ _ c.if-bases-p.false) (none_not_below _ _ c.if-any_not_below.ensures))))
