-- The places of the clumps of each input, transposed, are for each clump the inputs that have it: the outputs of the next level.
use mathlib.Core.Path.{◌≡◌, ap, ◌∙◌}
use mathlib.Core.List.{List, []}
use Prim.Native.Nat.{ℕ, ◌<◌}
use lib.ListN.{length, get_or}
use Rattle.digits.specs.Range.{list_to}
use Rattle.digits.proofs.Listed.{get_d_list, length-list, list_same}
use Rattle.clumps.specs.Lists.{which, has, having, holds}
use Rattle.clumps.specs.Clumps.{Level, clumps_in}
use Rattle.clumps.specs.Levels.{output_cut, next_outputs}
use Rattle.clumps.proofs.Lists.{which_same}
use Rattle.clumps.proofs.Chosen.{has_chosen}
use Rattle.level.specs.Inner.{places_of}

module _ (l : Level) (n : ℕ) (outs : List (List ℕ)) where
  abbrev cut : List (List (List ℕ))
  cut = output_cut l n outs

  abbrev places : List (List ℕ)
  places = list_to n (places_of cut)

  pub next_outputs_lem : list_to (length (clumps_in cut)) (having places) ≡ next_outputs l n outs
  unfolding next_outputs
  next_outputs_lem = list_same (length (clumps_in cut)) _ _ (λ x h. ap (which (λ i. has x (get_or places i []))) (length-list n (places_of cut)) ∙ which_same n _ _ (λ i g. one x i h g))
    where
      one : (x i : ℕ) → x < length (clumps_in cut) → i < n → has x (get_or places i []) ≡ holds (get_or (clumps_in cut) x []) (get_or cut i [])
      one x i h g =
          ap (has x) (get_d_list n (places_of cut) [] i g) ∙ has_chosen (λ y. holds (get_or (clumps_in cut) y []) (get_or cut i [])) (length (clumps_in cut)) x h
