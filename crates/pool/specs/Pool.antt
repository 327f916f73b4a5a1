-- The pool of two chains, those of a client's two sheets, as one (Req 01; Spec 7.4).
use Rattle.std.specs.Prelude.{cond, List, ◌++◌, map, ℕ, ◌+◌, ◌/◌, length}
use Rattle.chain.specs.Tests.{◌<?◌, ◌≠?◌, ◌or◌}
use Rattle.chain.specs.Verdict.{Verdict, fine, refused, ◌then◌, refuse_if, Answer, answer, on_fine}
use Rattle.chain.specs.Written.{over}
use Rattle.chain.specs.Chain.{most_payslips, most_steps, by, flat, sizes_rule, length_rule, steps_rule, outputs_rule, counts}
use Rattle.chain.specs.declared.Step.{Step}

-- Spec 7.4: a chain to be pooled with another, as it is lent
pub record Part : Type 0 where
  pub p : ℕ
  pub steps : List Step
  pub outputs : List ℕ

abbrev pub part : ℕ → List Step → List ℕ → Part
part p steps outputs = record { p = p; steps = steps; outputs = outputs }

-- Spec 7.4: the number that a value of the second part has in the pool, where the first has n steps: above p it is higher by n, while value 0 and the bases keep theirs
unfoldable pub renumbered : ℕ → ℕ → ℕ → ℕ
renumbered p n v = cond (p <? v) (v + n) v

abbrev pub renumbered_step : ℕ → ℕ → Step → Step
renumbered_step p n x = by (renumbered p n x.first) (renumbered p n x.second)

-- Spec 7.4: the pool's steps: those of the first part, then those of the second
abbrev pub pooled_steps : Part → Part → List Step
pooled_steps a b = a.steps ++ map (renumbered_step b.p (length a.steps)) b.steps

-- Spec 7.4: its outputs, likewise
abbrev pub pooled_outputs : Part → Part → List ℕ
pooled_outputs a b = a.outputs ++ map (renumbered b.p (length a.steps)) b.outputs

-- Spec 10.3: a place in the second part counts on from the k places of the first
unfoldable pub counted : ℕ → Verdict → Verdict
counted k fine = fine
counted k (refused n s) = refused n (k + s)

-- Spec 10.1, 10.2: 1 for the first part, for the second, then for more payslips together than a chain may have
unfoldable pub both_sizes_rule : ℕ → ℕ → ℕ → ℕ → Verdict
both_sizes_rule p q p' q' = sizes_rule p q then sizes_rule p' q' then refuse_if (most_payslips <? q + q') 1 0

-- Spec 10.1, 10.2: 4 for the first part, for the second, then for both together
unfoldable pub both_lengths_rule : ℕ → ℕ → Verdict
both_lengths_rule n n' = length_rule most_steps n then length_rule most_steps n' then length_rule most_steps (n + n')

-- Spec 7.4, 10.2: the steps of the first part, then of the second, each by its own numbers
unfoldable pub both_steps_rule : ℕ → List Step → ℕ → List Step → Verdict
both_steps_rule p steps p' steps' = steps_rule p 1 steps then counted (length steps) (steps_rule p' 1 steps')

-- Spec 7.4, 10.2: 12 for the outputs of the first part, then of the second, each held against the last value of its own part
unfoldable pub both_outputs_rule : ℕ → List ℕ → ℕ → List ℕ → Verdict
both_outputs_rule top outputs top' outputs' = outputs_rule top 1 outputs then counted (length outputs) (outputs_rule top' 1 outputs')

-- Spec 10.2: two parts pool, if 1, 17, 4, the steps' refusals and 12 do not apply; 17 is for column counts that differ
unfoldable pub poolable_rule : Part → Part → Verdict
poolable_rule a b =
    both_sizes_rule a.p (length a.outputs) b.p (length b.outputs)
    then refuse_if (a.p ≠? b.p) 17 0 then both_lengths_rule (length a.steps) (length b.steps)
    then both_steps_rule a.p a.steps b.p b.steps
    then both_outputs_rule (a.p + length a.steps) a.outputs (b.p + length b.steps) b.outputs

-- Spec 10.2: and then 5; the last two arguments are how many pairs and outputs are lent
unfoldable pub pool_rule : Part → Part → ℕ → ℕ → Verdict
pool_rule a b pairs_lent outputs_lent =
    poolable_rule a b
    then refuse_if (pairs_lent <? length (pooled_steps a b) or outputs_lent <? length (pooled_outputs a b)) 5 0

-- Spec 10.6, Req 05: the pool's n, its squarings and its other products
unfoldable pub pool_answer : Part → Part → ℕ → ℕ → Answer
pool_answer a b pairs_lent outputs_lent = answer (pool_rule a b pairs_lent outputs_lent) (counts (pooled_steps a b))

-- Spec 10.5: what the lent slices are afterwards, steps in turn; each was old before
unfoldable pub pool_steps : Part → Part → ℕ → List ℕ → List ℕ
pool_steps a b outputs_lent old = on_fine (pool_rule a b (length old / 2) outputs_lent) (over (flat (pooled_steps a b)) old) old

unfoldable pub pool_outputs : Part → Part → ℕ → List ℕ → List ℕ
pool_outputs a b pairs_lent old = on_fine (pool_rule a b pairs_lent (length old)) (over (pooled_outputs a b) old) old
