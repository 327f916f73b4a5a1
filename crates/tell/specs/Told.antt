-- How an answer crosses the C interface: a number and eight words (Req 05).
use Rattle.std.specs.Prelude.{◌≡◌, List, [], ◌∷◌, ◌++◌, ℕ, length, take, Result, Ok, Err}
use Rattle.chain.specs.Verdict.{Answer, done, refusal}
use Rattle.answers.specs.Answers.{Choice, first, second, neither}
use Rattle.answers.specs.declared.Chosen.{Chosen}
use Rattle.answers.specs.declared.Chosen.TheVariants.{First, Second}

-- a call's answer by what tells why it refuses: the values, or that number and that place
abbrev pub answer_by : {A R : Type 0} → (R → ℕ) → (R → ℕ) → (A → List ℕ) → Result A R → Answer
answer_by number place words (Ok a) = done (words a)
answer_by number place words (Err r) = refusal (number r) (place r)

-- what is returned: 0 where the call is done, else the refusal's number
abbrev pub number_of : Answer → ℕ
number_of (done vs) = 0
number_of (refusal n s) = n

-- what the eight words are: the values, or the refusal's place, then zeros
abbrev pub words_of : Answer → List ℕ
words_of (done vs) = take 8 (vs ++ 0 ∷ 0 ∷ 0 ∷ 0 ∷ 0 ∷ 0 ∷ 0 ∷ 0 ∷ [])
words_of (refusal n s) = s ∷ 0 ∷ 0 ∷ 0 ∷ 0 ∷ 0 ∷ 0 ∷ 0 ∷ []

-- nothing of an answer is cut off: the words begin with all its values
abbrev pub Uncut : Answer → Type 0
Uncut (done vs) = take (length vs) (words_of (done vs)) ≡ vs
Uncut (refusal n s) = take 1 (words_of (refusal n s)) ≡ s ∷ []

-- what the chooser answers: the file handed back, 1 or 2, or the refusal
abbrev pub choice_answer : Choice → Answer
choice_answer first = done (1 ∷ [])
choice_answer second = done (2 ∷ [])
choice_answer (neither n s) = refusal n s

-- the file handed back
abbrev pub chosen_in : Chosen → List ℕ
chosen_in First = 1 ∷ []
chosen_in Second = 2 ∷ []
