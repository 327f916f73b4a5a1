-- Compile (Spec 3, 7.1): from a sheet to a chain by a method's number and its parameter.
use Rattle.std.specs.Prelude.{List, ℕ, ◌/◌, length}
use Rattle.chain.specs.Tests.{◌<?◌, ◌or◌}
use Rattle.chain.specs.Verdict.{Verdict, ◌then◌, refuse_if, Answer, answer, on_fine}
use Rattle.chain.specs.Written.{over}
use Rattle.chain.specs.Chain.{most_steps, flat, length_rule, counts}
use Rattle.quote.specs.ByMethod.{chain_of, count, count_rule}

-- Spec 7.1: accepted together, if 1, 2, 3 and 4 do not apply; n is the method's count
unfoldable pub accepted_rule : ℕ → ℕ → List ℕ → ℕ → ℕ → Verdict
accepted_rule p q amounts method k =
    count_rule p q amounts method k
    then length_rule most_steps (count p q amounts method k)

-- Spec 10.2: and then 5; the last two arguments are how many pairs and outputs are lent
unfoldable pub compile_rule : ℕ → ℕ → List ℕ → ℕ → ℕ → ℕ → ℕ → Verdict
compile_rule p q amounts method k pairs_lent outputs_lent =
    accepted_rule p q amounts method k
    then refuse_if (pairs_lent <? count p q amounts method k or outputs_lent <? q) 5 0

-- Spec 10.6, Req 05: n, the squarings and the other products of the chain
unfoldable pub compile_answer : ℕ → ℕ → List ℕ → ℕ → ℕ → ℕ → ℕ → Answer
compile_answer p q amounts method k pairs_lent outputs_lent =
    answer (compile_rule p q amounts method k pairs_lent outputs_lent) (counts (chain_of p q amounts method k).steps)

-- Spec 10.5: what the lent slices are afterwards, steps in turn; each was old before
unfoldable pub compile_steps : ℕ → ℕ → List ℕ → ℕ → ℕ → ℕ → List ℕ → List ℕ
compile_steps p q amounts method k outputs_lent old =
    on_fine (compile_rule p q amounts method k (length old / 2) outputs_lent) (over (flat (chain_of p q amounts method k).steps) old) old

unfoldable pub compile_outputs : ℕ → ℕ → List ℕ → ℕ → ℕ → ℕ → List ℕ → List ℕ
compile_outputs p q amounts method k pairs_lent old =
    on_fine (compile_rule p q amounts method k pairs_lent (length old)) (over (chain_of p q amounts method k).outputs old) old
