-- The squarings grow column by column: each column's are appended to those before it.
use mathlib.Core.Path.{◌≡◌, refl, ap, ◌∙◌}
use mathlib.Core.List.{List}
use Prim.Native.Nat.{ℕ, zero, suc, ◌+◌, ◌≤◌, ◌<◌}
use native.Mathlib.Numerals.{add-one}
use native.Mathlib.Omega.{arith}
use lib.ListN.{length, get_or}
use Rattle.chain.specs.declared.Step.{Step}
use Rattle.products.specs.Product.{made, squared}
use Rattle.methods.specs.Powers.{counts_of, squarings}
use Rattle.products.specs.Inner.{steps_in, begun, StepsRoom, StepsStored, Emitted}
use Rattle.products.specs.declared.Progress.{Progress}
use Rattle.products.proofs.Sound.{Begins, begins_rise}
use Rattle.products.proofs.Product.{squared_begins}
use Rattle.products.proofs.Emitted.{stored_own, emits_room, emits_on}

-- the squarings of fewer columns are made first
pub squarings_begin : (p : ℕ) (n : ℕ → ℕ) (c d : ℕ) → c ≤ d → Begins (squarings p n c) (squarings p n d)
squarings_begin p n = begins_rise (squarings p n) (λ c. squared_begins p (made (squarings p n c) (c + 1)) 0 (n c) (omega arith))

-- counts that agree give the same squarings
pub squarings_same : (p : ℕ) (n m : ℕ → ℕ) (c : ℕ) → ((d : ℕ) → d < c → n d ≡ m d) → squarings p n c ≡ squarings p m c
squarings_same p n m zero e = refl
squarings_same p n m (suc c) e =
    ap (λ (s : List Step). (squared p (n c) (made s (c + 1))).steps) (squarings_same p n m c (λ d h. e d (omega arith)))
    ∙ ap (λ (k : ℕ). (squared p k (made (squarings p m c) (c + 1))).steps) (e c (omega arith))

module _ (p : ℕ) (counts old : List ℕ) (room : StepsRoom p old begun (squarings p (counts_of counts) (length counts))) where
  pub columns_start : StepsStored old old begun (squarings p (counts_of counts) 0)
  columns_start = stored_own old begun room.so_far

  module _ (cells : List ℕ) (r : Progress) (c : ℕ) (s : StepsStored old cells r (squarings p (counts_of counts) c)) (less : c < length counts) where
    base : Emitted old cells r (c + 1) (made (squarings p (counts_of counts) c) (c + 1))
    base = record { stored = s; value = refl }

    begins : Begins (squarings p (counts_of counts) c) (squarings p (counts_of counts) (suc c))
    begins = squarings_begin p (counts_of counts) c (suc c) (omega arith)

    pub columns_room : StepsRoom p cells r (squared p (get_or counts c 0) (made (steps_in cells r.steps) (c + 1))).steps
    columns_room = emits_room room (squared p (counts_of counts c)) base begins (squarings_begin p (counts_of counts) (suc c) (length counts) less)

    pub columns_on : (cells' : List ℕ) (r' : Progress) (v' : ℕ)
        → Emitted cells cells' r' v' (squared p (get_or counts c 0) (made (steps_in cells r.steps) (c + 1)))
        → StepsStored old cells' r' (squarings p (counts_of counts) (c + 1))
    columns_on cells' r' v' t = rw (add-one c) (emits_on (squared p (counts_of counts c)) base begins t).stored

pub ruleset squaring_columns = (columns_start, columns_room, columns_on)
