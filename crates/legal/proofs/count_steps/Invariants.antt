-- At each turn the legal steps are those counted and those left, and so are the squarings; v is the number of the value that the step at hand makes.
use Rattle.std.proofs.Common.{◌≡◌, ◌+◌, ◌≤◌}
use Rattle.chain.specs.Chain.{squarings_of}
use Rattle.legal.specs.Inner.{legal_of}
use Rattle.legal.proofs.Counting.{left_to_add, legal_at, squaring_at}
use Rattle.legal.proofs.count_steps.Given as goal

abbrev pub invariant-loop-s : goal.invariant-loop-s
invariant-loop-s g l =
    let list = g.S.StepList.list l.steps in
    (l.legal ≤ l.s)
    × (l.squarings ≤ l.s)
    × (l.v ≡ l.p + l.s + 1)
    × (legal_of l.p list ≡ l.legal + left_to_add (legal_at l.p) list l.s)
    × (squarings_of list ≡ l.squarings + left_to_add squaring_at list l.s)
