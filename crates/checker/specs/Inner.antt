-- Inner vocabulary: what the functions of this crate ask and leave; nobody has to believe it to believe an entry point's promise.
use Rattle.std.specs.Prelude.{◌≡◌, List, ℕ, ◌*◌, ◌<◌, length}
use Rattle.chain.specs.declared.Step.{Step}
use Rattle.chain.specs.Inner.{StepsSound, ChainSound}

-- what the sums of column c ask
pub record ColumnAsked (p c : ℕ) (steps : List Step) (scratch : List ℕ) : Type 0 where
  pub column : c < p
  pub steps_sound : StepsSound p steps scratch

-- what those of all columns ask, to be held against the amounts
pub record HoldAsked (p : ℕ) (steps : List Step) (outputs amounts scratch : List ℕ) : Type 0 where
  pub chain_sound : ChainSound p steps outputs scratch
  pub amounts_fit : length amounts ≡ p * length outputs
