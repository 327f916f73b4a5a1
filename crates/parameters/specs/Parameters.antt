-- The methods' numbers and the ranges of their parameters (Spec 3).
use Rattle.std.specs.Prelude.{Bool, true, cond, ℕ, ◌*◌}
use Rattle.chain.specs.Tests.{◌<?◌, ◌=?◌, ◌or◌}
use Rattle.chain.specs.Verdict.{Verdict, refuse_if}
use Rattle.straus.specs.Straus.{straus_most, straus_most_bits}
use Rattle.yao.specs.Yao.{yao_most}
use Rattle.groups.specs.Groups.{most_members}

-- the parameter is outside lowest .. highest
abbrev pub outside : ℕ → ℕ → ℕ → Bool
outside lowest highest k = k <? lowest or highest <? k

-- Spec 3: refusal 3, by the table of methods and their ranges
unfoldable pub method_rule : ℕ → ℕ → ℕ → Verdict
method_rule p method k =
    refuse_if
    (cond (method =? 1) (outside 1 straus_most k or straus_most_bits <? p * k)
    (cond (method =? 2) (outside 1 yao_most k)
    (cond (method =? 3) (outside 1 most_members k)
    true)))
    3 0
