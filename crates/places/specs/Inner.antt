-- Inner vocabulary: what the functions of this crate leave. Nobody has to believe it to believe an entry point's promise.
use Rattle.std.specs.Prelude.{◌≡◌, List, ℕ, Result}
use Rattle.places.specs.declared.Refusal.{Refusal}
use Rattle.places.specs.Places.{number_by, words_told}

-- an answer was told: the number that its fault has was returned, and its words were written
pub record ReadTold {F : Type 0} (number : F → ℕ) (a : Result (ℕ × ℕ) (Refusal F)) (returned : ℕ) (words : List ℕ) : Type 0 where
  pub number_is : returned ≡ number_by number a
  pub words_are : words ≡ words_told a
