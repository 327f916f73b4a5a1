-- Inner vocabulary: a chain judged from its steps on, by a call that is lent cells for its values. Nobody has to believe it to believe an entry point's
-- promise.
use Rattle.std.specs.Prelude.{List, ℕ, ◌+◌, ◌≤◌, length}
use Rattle.chain.specs.Tests.{◌<?◌}
use Rattle.chain.specs.Verdict.{Verdict, ◌then◌, refuse_if}
use Rattle.chain.specs.Chain.{most_columns, most_steps, steps_rule, outputs_rule}
use Rattle.chain.specs.declared.Step.{Step}

-- what it asks of the columns and the steps
pub record EndAsked (p n : ℕ) : Type 0 where
  pub p_low : p ≤ most_columns
  pub n_low : n ≤ most_steps

-- after n steps: 12, then 5 where fewer cells are lent than there are values
unfoldable pub end_rule : ℕ → ℕ → List ℕ → ℕ → Verdict
end_rule p n outputs cells = outputs_rule (p + n) 1 outputs then refuse_if (cells <? p + n + 1) 5 0

-- from the steps on
unfoldable pub rest_rule : ℕ → List Step → List ℕ → ℕ → Verdict
rest_rule p steps outputs cells = steps_rule p 1 steps then end_rule p (length steps) outputs cells
