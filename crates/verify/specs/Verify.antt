-- The check of a chain against a sheet (Spec 4).
use Rattle.std.specs.Prelude.{cond, List, [], ◌∷◌, ℕ, zero, suc, ◌+◌, min, length, get_or, drop, replicate}
use Rattle.chain.specs.Tests.{◌<?◌, ◌=?◌}
use Rattle.chain.specs.Verdict.{Verdict, ◌then◌, refuse_if, refuse_at, Answer, answer, on_fine}
use Rattle.chain.specs.Written.{over}
use Rattle.chain.specs.Chain.{most_steps, most_amount, shape_rule, chain_rule, exponents, counts}
use Rattle.chain.specs.declared.Step.{Step}
use Rattle.sheet.specs.Sheet.{amount, amounts_rule}

-- the earlier of two places, 0 being none
abbrev pub earlier : ℕ → ℕ → ℕ
earlier zero b = b
earlier (suc a) zero = suc a
earlier (suc a) (suc b) = min (suc a) (suc b)

-- Spec 10.3: the earliest of the places f 0 .. f (n - 1)
abbrev pub earliest : ℕ → (ℕ → ℕ) → ℕ
earliest zero f = 0
earliest (suc n) f = earlier (earliest n f) (f n)

-- s where the number is over the limit, else the place found later
unfoldable pub over_or : ℕ → ℕ → ℕ → ℕ
over_or x s later = cond (most_amount <? x) s later

-- the first place, from s, of a number over the limit; 0 if there is none
abbrev pub first_over : ℕ → List ℕ → ℕ
first_over s [] = 0
first_over s (x ∷ r) = over_or x s (first_over (suc s) r)

-- s where the two numbers differ, else the place found later
unfoldable pub other_or : ℕ → ℕ → ℕ → ℕ → ℕ
other_or x y s later = cond (x =? y) later s

-- the first payslip, from i, counted from 0, whose output's exponent in column c is not its amount; 0 if there is none, else counted from 1
abbrev pub first_other : ℕ → ℕ → List ℕ → List ℕ → ℕ → List ℕ → ℕ
first_other p c amounts es i [] = 0
first_other p c amounts es i (o ∷ r) = other_or (get_or es o 0) (amount p amounts i c) (suc i) (first_other p c amounts es (suc i) r)

-- Spec 4, 10.3: 13 at the first step with an exponent too large in any column; also where no output uses that value
unfoldable pub exponents_rule : ℕ → List Step → Verdict
exponents_rule p steps = refuse_at 13 (earliest p (λ c. first_over 1 (drop (p + 1) (exponents p c steps))))

-- Spec 4, 10.3: 14 at the first payslip that differs from its output in any column
unfoldable pub payslips_rule : ℕ → List ℕ → List Step → List ℕ → Verdict
payslips_rule p amounts steps outputs = refuse_at 14 (earliest p (λ c. first_other p c amounts (exponents p c steps) 0 outputs))

-- Spec 4: how much scratch is needed
abbrev pub scratch_size : ℕ → ℕ → ℕ
scratch_size p n = p + n + 1

-- Spec 10.2: what is found before the scratch is used: 1, 4, 2, steps, 12, 5; the last argument is how many numbers are lent
unfoldable pub fitting_rule : ℕ → List Step → List ℕ → List ℕ → ℕ → Verdict
fitting_rule p steps outputs amounts scratch =
    shape_rule most_steps p (length outputs) (length steps)
    then amounts_rule p (length outputs) amounts
    then chain_rule p steps outputs
    then refuse_if (scratch <? scratch_size p (length steps)) 5 0

-- Spec 10.2: and then 13, 14
unfoldable pub verify_rule : ℕ → List Step → List ℕ → List ℕ → ℕ → Verdict
verify_rule p steps outputs amounts scratch =
    fitting_rule p steps outputs amounts scratch
    then exponents_rule p steps
    then payslips_rule p amounts steps outputs

-- Spec 10.6, Req 05: n, the squarings and the other products of a chain that passed
unfoldable pub verify_answer : ℕ → List Step → List ℕ → List ℕ → ℕ → Answer
verify_answer p steps outputs amounts scratch = answer (verify_rule p steps outputs amounts scratch) (counts steps)

-- Spec 10.5: the scratch is cleared on 13, 14 and passing, else as it was
unfoldable pub verify_scratch : ℕ → List Step → List ℕ → List ℕ → List ℕ → List ℕ
verify_scratch p steps outputs amounts old =
    on_fine (fitting_rule p steps outputs amounts (length old)) (over (replicate (scratch_size p (length steps)) 0) old) old
