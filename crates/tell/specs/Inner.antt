-- Inner vocabulary: what the functions of this crate leave. Nobody has to believe it to believe an entry point's promise.
use Rattle.std.specs.Prelude.{◌≡◌, List, [], ◌∷◌, ℕ}
use Rattle.chain.specs.Verdict.{Answer}
use Rattle.tell.specs.Told.{number_of, words_of}

-- a number was returned, and five words and zeros were written
pub record WordsWritten (number a b c d e returned : ℕ) (words : List ℕ) : Type 0 where
  pub number_is : returned ≡ number
  pub words_are : words ≡ a ∷ b ∷ c ∷ d ∷ e ∷ 0 ∷ 0 ∷ 0 ∷ []

-- an answer was told: its number was returned, and its words were written
pub record ToldAs (a : Answer) (returned : ℕ) (words : List ℕ) : Type 0 where
  pub number_is : returned ≡ number_of a
  pub words_are : words ≡ words_of a
