-- Inner vocabulary: what run finds before the steps of a chain and after all of it. Nobody has to believe it to believe an entry point's promise.
use Rattle.std.specs.Prelude.{List, ℕ, length}
use Rattle.chain.specs.Tests.{◌<?◌, ◌=?◌, ◌≠?◌, ◌or◌}
use Rattle.chain.specs.Verdict.{Verdict, ◌then◌, refuse_if}
use Rattle.chain.specs.Chain.{most_steps, shape_rule}
use Rattle.run.specs.Run.{any_not_below}

-- 1, 4, 15, 16, for n steps
unfoldable pub start_rule : ℕ → ℕ → ℕ → ℕ → List ℕ → Verdict
start_rule p q n m bases =
    shape_rule most_steps p q n
    then refuse_if (m =? 0) 15 0
    then refuse_if (length bases ≠? p or any_not_below m bases) 16 0

-- 5 for figures: fewer are lent than there are outputs
unfoldable pub figures_rule : ℕ → ℕ → Verdict
figures_rule outputs figures_lent = refuse_if (figures_lent <? outputs) 5 0
