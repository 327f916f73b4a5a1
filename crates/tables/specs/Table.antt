-- A table of products of some inputs (Spec 3.4). An entry is a vector with a digit below 2^k for each input; its number t has
-- weight 1 for the first input and 2^(kj) for the one at place j, counted from 0. Straus's table has the bases for inputs; a group of the
-- partition method has its members, and k = 1.
use Rattle.std.specs.Prelude.{Bool, true, false, cond, List, [], ◌∷◌, ◌++◌, ℕ, zero, suc, ◌+◌, ◌-◌, ◌*◌, ◌^◌, get_or}
use Rattle.chain.specs.Tests.{◌=?◌, ◌or◌}
use Rattle.chain.specs.declared.Step.{Step}
use Rattle.digits.specs.Digits.{digit_count, digit}
use Rattle.products.specs.Product.{ordered}

-- t is a unit: its one digit that is not 0 is its top digit, and that is 1
abbrev pub is_unit : ℕ → ℕ → Bool
is_unit k t = t =? 2 ^ (k * (digit_count k t - 1))

-- The value number of entry t, where the table's first step makes value at. Zero is the empty product and a unit is its input. The others are
-- made in rising t: of 1 .. t, as many are units as t has digits, so t is the one numbered t - digitCount k t.
unfoldable pub entry : ℕ → List ℕ → ℕ → ℕ → ℕ
entry k inputs at t =
    cond (t =? 0) 0
    (cond (is_unit k t) (get_or inputs (digit_count k t - 1) 0)
    (at + t - digit_count k t - 1))

-- Spec 3.4: the place of the lowest digit of t that is not 0, from place j on, as far as the first argument allows
abbrev pub lowest_from : ℕ → ℕ → ℕ → ℕ → ℕ
lowest_from zero k t j = j
lowest_from (suc f) k t j = elim (digit k t j =? 0) [ true ↦ lowest_from f k t (suc j) | false ↦ j ]

abbrev pub lowest : ℕ → ℕ → ℕ
lowest k t = lowest_from (digit_count k t) k t 0

-- Spec 3.4: the step of entry t, from the entry with one less in its lowest digit that is not 0, and the input of that digit
unfoldable pub table_next : ℕ → List ℕ → ℕ → ℕ → List Step → List Step
unfolding entry
table_next k inputs at t before =
    cond (t =? 0 or is_unit k t) before
    (before ++ ordered (entry k inputs at (t - 2 ^ (k * lowest k t))) (get_or inputs (lowest k t) 0) ∷ [])

-- Spec 3.4: the steps of the entries below t, in rising t
abbrev pub table : ℕ → List ℕ → ℕ → ℕ → List Step
table k inputs at zero = []
table k inputs at (suc t) = table_next k inputs at t (table k inputs at t)
