-- A call's answer is told on: the number returned and the words written are those of what it is right to answer.
use mathlib.Core.Path.{◌≡◌, refl, ap, ◌∙◌}
use mathlib.Core.List.{List, [], ◌∷◌}
use Prim.Native.Nat.{ℕ}
use Rattle.std.specs.Prelude.{Result, Ok, Err}
use Rattle.chain.specs.Verdict.{Answer, done}
use Rattle.chain.specs.Judgement.{answer_of}
use Rattle.answers.specs.Answers.{Choice, choice_of}
use Rattle.answers.specs.declared.Chosen.{Chosen}
use Rattle.answers.specs.declared.Chosen.TheVariants.{First, Second}
use Rattle.refusal.specs.declared.Refusal.{Refusal}
use Rattle.tell.specs.Told.{number_of, words_of, choice_answer, chosen_in}
use Rattle.tell.specs.Inner.{ToldAs}

module _ (answered right : Answer) (number : ℕ) (words : List ℕ) where
  pub told_number : ToldAs answered number words → answered ≡ right → number ≡ number_of right
  told_number told is = told.number_is ∙ ap number_of is

  pub told_words : ToldAs answered number words → answered ≡ right → words ≡ words_of right
  told_words told is = told.words_are ∙ ap words_of is

-- what the chooser answers, by the file or the refusal
chosen_is : (r : Result Chosen Refusal) → answer_of chosen_in r ≡ choice_answer (choice_of r)
chosen_is (Ok First) = refl
chosen_is (Ok Second) = refl
chosen_is (Err r) = refl

module _ (r : Result Chosen Refusal) (right : Choice) (number : ℕ) (words : List ℕ) where
  pub choice_number : ToldAs (answer_of chosen_in r) number words → choice_of r ≡ right → number ≡ number_of (choice_answer right)
  choice_number told is = told_number _ _ _ _ told (chosen_is r ∙ ap choice_answer is)

  pub choice_words : ToldAs (answer_of chosen_in r) number words → choice_of r ≡ right → words ≡ words_of (choice_answer right)
  choice_words told is = told_words _ _ _ _ told (chosen_is r ∙ ap choice_answer is)

-- the length of a listing
module _ (length right number : ℕ) (words : List ℕ) where
  pub length-number : ToldAs (done (length ∷ [])) number words → number ≡ 0
  length-number told = told.number_is

  pub length-words : ToldAs (done (length ∷ [])) number words → length ≡ right → words ≡ right ∷ 0 ∷ 0 ∷ 0 ∷ 0 ∷ 0 ∷ 0 ∷ 0 ∷ []
  length-words told is = told.words_are ∙ ap (λ (n : ℕ). n ∷ 0 ∷ 0 ∷ 0 ∷ 0 ∷ 0 ∷ 0 ∷ 0 ∷ []) is

pub ruleset telling = (told_number, told_words, choice_number, choice_words, length-number, length-words)
