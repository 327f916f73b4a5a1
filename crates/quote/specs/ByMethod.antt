-- The method of a number (Spec 3): its chain, its count and its ceiling for a sheet and a parameter, and what is answered to who asks for the ceiling.
use Rattle.std.specs.Prelude.{cond, List, [], ◌∷◌, ℕ}
use Rattle.chain.specs.Tests.{◌=?◌}
use Rattle.chain.specs.Verdict.{Verdict, ◌then◌, Answer, answer}
use Rattle.chain.specs.Chain.{Chain}
use Rattle.sheet.specs.Sheet.{sheet_rule}
use Rattle.methods.specs.Method.{Method}
use Rattle.straus.specs.Straus.{straus_method}
use Rattle.yao.specs.Yao.{yao_method}
use Rattle.partition.specs.Method.{partition_method}
use Rattle.parameters.specs.Parameters.{method_rule}

-- the method of a number, for a sheet and a parameter; `method_rule` lets no number but 1, 2 and 3 pass
unfoldable pub method_of : ℕ → ℕ → List ℕ → ℕ → ℕ → Method
method_of p q amounts method k =
    cond (method =? 1) (straus_method p q amounts k)
    (cond (method =? 2) (yao_method p q amounts k)
    (partition_method p q amounts k))

abbrev pub chain_of : ℕ → ℕ → List ℕ → ℕ → ℕ → Chain
chain_of p q amounts method k = (method_of p q amounts method k).chain

abbrev pub count : ℕ → ℕ → List ℕ → ℕ → ℕ → ℕ
count p q amounts method k = (method_of p q amounts method k).count

abbrev pub ceiling : ℕ → ℕ → List ℕ → ℕ → ℕ → ℕ
ceiling p q amounts method k = (method_of p q amounts method k).ceiling

-- Spec 10.2: 1, 2, then 3; what passes has a count and a ceiling
unfoldable pub count_rule : ℕ → ℕ → List ℕ → ℕ → ℕ → Verdict
count_rule p q amounts method k = sheet_rule p q amounts then method_rule p method k

-- Spec 7.7, Req 04: the count and the ceiling, however long the chain would be
unfoldable pub ceiling_answer : ℕ → ℕ → List ℕ → ℕ → ℕ → Answer
ceiling_answer p q amounts method k =
    answer (count_rule p q amounts method k) (count p q amounts method k ∷ ceiling p q amounts method k ∷ [])
