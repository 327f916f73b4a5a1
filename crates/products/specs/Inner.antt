-- Inner vocabulary: what the functions that put steps into a lent flat slice, first and second in turn, ask and leave;
-- nobody has to believe it to believe an entry point's promise.
use Rattle.std.specs.Prelude.{◌≡◌, List, ℕ, ◌+◌, ◌*◌, ◌^◌, ◌≤◌, ◌<◌, length, take}
use Rattle.chain.specs.Chain.{pairs, flat, squarings_of}
use Rattle.chain.specs.Written.{over}
use Rattle.chain.specs.declared.Step.{Step}
use Rattle.products.specs.Product.{Made, made}
use Rattle.products.specs.declared.Progress.{Progress}
use Rattle.products.specs.declared.PartialProduct.{PartialProduct}

-- the first n steps of a slice
abbrev pub steps_in : List ℕ → ℕ → List Step
steps_in cells n = pairs (take (2 * n) cells)

-- the product in the making m after the steps of a slice
abbrev pub product_in : List ℕ → PartialProduct → Made
product_in cells m = made (steps_in cells m.progress.steps) m.value

-- what a function that fills what it is lent asks: what is asked of it, and the room for what it makes
pub record WithRoom (Question Room : Type 0) : Type 0 where
  pub asked : Question
  pub room : Room

-- before the first step
abbrev pub begun : Progress
begun = record { steps = 0; squarings = 0 }

-- a slice that holds as many steps as were made so far, and as many squarings among them
pub record SoFar (cells : List ℕ) (r : Progress) : Type 0 where
  pub fits : 2 * r.steps ≤ length cells
  pub counted : r.squarings ≡ squarings_of (steps_in cells r.steps)

-- room for so many steps more after those
pub record MoreRoom (cells : List ℕ) (r : Progress) (more : ℕ) : Type 0 where
  pub so_far : SoFar cells r
  pub enough : 2 * (r.steps + more) ≤ length cells

-- room for all the steps in a slice that holds those made so far, and numbers below 2^32 for all their values
pub record StepsRoom (p : ℕ) (cells : List ℕ) (r : Progress) (steps : List Step) : Type 0 where
  pub so_far : SoFar cells r
  pub cells_hold : 2 * length steps ≤ length cells
  pub numbers_fit : p + length steps < 2 ^ 32

-- the slice holds the steps over the front of what it held before, and r says how many they are, and how many of them squarings
pub record StepsStored (before cells : List ℕ) (r : Progress) (steps : List Step) : Type 0 where
  pub cells_are : cells ≡ over (flat steps) before
  pub count : r.steps ≡ length steps
  pub squarings : r.squarings ≡ squarings_of steps

-- it holds the steps of a product in the making, and v is the product's value
pub record Emitted (before cells : List ℕ) (r : Progress) (v : ℕ) (m : Made) : Type 0 where
  pub stored : StepsStored before cells r m.steps
  pub value : v ≡ m.value
