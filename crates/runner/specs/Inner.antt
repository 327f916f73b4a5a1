-- Inner vocabulary: what the functions of this crate ask and leave; nobody has to believe it to believe an entry point's promise.
use Rattle.std.specs.Prelude.{◌≡◌, List, ℕ, ◌<◌, length}
use Rattle.chain.specs.Inner.{StepsSound}
use Rattle.chain.specs.declared.Step.{Step}

-- what the steps' products ask
pub record MultiplyAsked (p : ℕ) (steps : List Step) (m : ℕ) (cells : List ℕ) : Type 0 where
  pub modulus : 0 < m
  pub steps_sound : StepsSound p steps cells

-- what all values ask
pub record FillAsked (p : ℕ) (steps : List Step) (m : ℕ) (bases cells : List ℕ) : Type 0 where
  pub products : MultiplyAsked p steps m cells
  pub bases_are_p : length bases ≡ p
