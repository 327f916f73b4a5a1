-- Inner vocabulary: products of rows that stand in the slice in front of which the steps are made; nobody has to believe it to believe an entry point's
-- promise.
use Rattle.std.specs.Prelude.{◌≡◌, List, ◌++◌, ℕ, ◌+◌, ◌-◌, ◌*◌, ◌^◌, ◌≤◌, ◌<◌, length, get_or, drop}
use Rattle.std.proofs.Math.Seq.{slice}
use Rattle.chain.specs.Chain.{Chain, most_columns, pick, squarings_of}
use Rattle.digits.specs.Range.{list_to}
use Rattle.products.specs.Inner.{steps_in, SoFar}
use Rattle.products.specs.declared.Progress.{Progress}
use Rattle.rows.specs.Inner.{members_at, row_at, Formed, Rising}
use Rattle.row_products.specs.declared.Problem.{Problem}
use Rattle.row_products.specs.declared.Joint.{Joint}

-- the values from a cell on that these places name
abbrev pub values_at : List ℕ → ℕ → List ℕ → List ℕ
values_at s at places = pick (drop at s) places

-- those of a product: the places in the cells from .. to name values from a cell on; the steps, one for each at most, end before what is read
pub record ProductAsked (p : ℕ) (s : List ℕ) (r : Progress) (values from to : ℕ) : Type 0 where
  pub so_far : SoFar s r
  pub rises : from ≤ to
  pub inside : to ≤ length s
  pub before_places : 2 * (r.steps + (to - from)) ≤ from
  pub before_values : 2 * (r.steps + (to - from)) ≤ values
  pub there : (i : ℕ) → from ≤ i → i < to → values + get_or s i 0 < length s
  pub numbers_fit : p + r.steps + (to - from) < 2 ^ 32

-- where the rows begin: the steps of every chain that the levels make end before it
abbrev pub lists_from : ℕ
lists_from = 150000

-- the chain is made: its steps in front, its outputs from cell `to` on; the cells from the first row on up to there are as they were
pub record Done (to : ℕ) (r : Progress) (chain : Chain) (old new : List ℕ) : Type 0 where
  pub size : length new ≡ length old
  pub steps : steps_in new r.steps ≡ chain.steps
  pub count : r.steps ≡ length chain.steps
  pub squarings : r.squarings ≡ squarings_of chain.steps
  pub kept : (c : ℕ) → lists_from ≤ c → c < to → get_or new c 0 ≡ get_or old c 0
  pub outputs : slice to (to + length chain.outputs) new ≡ chain.outputs

-- m rows of places below n stand at a cell
pub record PlacesAt (s : List ℕ) (at m n : ℕ) : Type 0 where
  pub formed : Formed s at m (get_or s (at + m) 0)
  pub low : (i : ℕ) → at + m + 1 ≤ i → i < get_or s (at + m) 0 → get_or s i 0 < n

-- n values and m rows of rising places of them stand before cell `to`
pub record ProblemAt (s : List ℕ) (t : Problem) (to : ℕ) : Type 0 where
  pub formed : Formed s t.outs t.m (get_or s (t.outs + t.m) 0)
  pub rising : (j : ℕ) → j < t.m → Rising t.n (row_at s t.outs j)
  pub rows_behind : lists_from ≤ t.outs
  pub rows_before : get_or s (t.outs + t.m) 0 ≤ to
  pub values_behind : lists_from ≤ t.ins
  pub values_before : t.ins + t.n ≤ to

-- the steps so far, and room before the rows for so many more
pub record FrontRoom (p : ℕ) (s : List ℕ) (r : Progress) (more : ℕ) : Type 0 where
  pub so_far : SoFar s r
  pub enough : 2 * (r.steps + more) ≤ lists_from
  pub columns : p ≤ most_columns

-- n values and m rows of their places, all before cell `to`, where there is room for m outputs
pub record SeparatelyAsked (p : ℕ) (s : List ℕ) (problem : Problem) (to : ℕ) (r : Progress) : Type 0 where
  pub rows : PlacesAt s problem.outs problem.m problem.n
  pub rows_behind : lists_from ≤ problem.outs
  pub rows_before : get_or s (problem.outs + problem.m) 0 ≤ to
  pub values_behind : lists_from ≤ problem.ins
  pub values_before : problem.ins + problem.n ≤ to
  pub room : to + problem.m ≤ length s
  pub front : FrontRoom p s r (members_at s problem.outs problem.m)

-- what an output is the product of: values of clumps and values of inputs
abbrev pub joined : List ℕ → Joint → List (List ℕ)
joined s j =
    list_to j.m (λ i.
    pick (slice j.made (j.made + j.k) s) (row_at s j.clumps i) ++ pick (slice j.ins (j.ins + j.n) s) (row_at s j.rest i))

-- m rows of places of k values and m rows of places of n inputs; the inputs stand before cell `to`, all else behind the room for m outputs there
pub record JoinAsked (p : ℕ) (s : List ℕ) (j : Joint) (to : ℕ) (r : Progress) : Type 0 where
  pub clump_rows_lem : PlacesAt s j.clumps j.m j.k
  pub rest_rows : PlacesAt s j.rest j.m j.n
  pub clumps_behind : to + j.m ≤ j.clumps
  pub rest_behind : to + j.m ≤ j.rest
  pub made_behind : to + j.m ≤ j.made
  pub made_inside : j.made + j.k ≤ length s
  pub values_behind : lists_from ≤ j.ins
  pub values_before : j.ins + j.n ≤ to
  pub front : FrontRoom p s r (members_at s j.clumps j.m + members_at s j.rest j.m)

-- multiplying by the values that row j of those at a cell names asks for its places, and what a product of it asks
pub record RowAsked (p : ℕ) (s : List ℕ) (r : Progress) (values rows j : ℕ) : Type 0 where
  pub there : rows + j + 1 < length s
  pub asked : ProductAsked p s r values (get_or s (rows + j) 0) (get_or s (rows + j + 1) 0)
