-- Inner vocabulary: a level of output clumping closed; nobody has to believe it to believe an entry point's promise.
use Rattle.std.specs.Prelude.{List, ◌++◌, ℕ, ◌+◌, ◌^◌, ◌≤◌, ◌<◌, length, get_or}
use Rattle.std.proofs.Math.Seq.{slice}
use Rattle.chain.specs.Chain.{pick}
use Rattle.digits.specs.Range.{list_to}
use Rattle.products.specs.declared.Progress.{Progress}
use Rattle.clumps.specs.Lists.{having}
use Rattle.rows.specs.Inner.{members_at, row_at, rows_at, Formed, Rising}
use Rattle.row_products.specs.Inner.{lists_from, FrontRoom}
use Rattle.row_products.specs.declared.Problem.{Problem}
use Rattle.opening.specs.declared.Opened.{Opened}

-- what each output is the product of: the clumps that it is in, whose values are made, and the inputs whose overflow it is in
abbrev pub closed_by : List ℕ → Problem → Opened → List (List ℕ)
closed_by s t o =
    list_to t.m (λ j.
    pick (slice o.made (o.made + o.k) s) (having (rows_at s o.clumps o.k) j) ++ pick (slice t.ins (t.ins + t.n) s) (having (rows_at s o.rest t.n) j))

-- rows of what overflows of n inputs and of k clumps, of outputs below m, the clumps' values behind them, and room for both transposed
pub record CloseAsked (p : ℕ) (s : List ℕ) (t : Problem) (o : Opened) (to : ℕ) (r : Progress) : Type 0 where
  pub rest_at : to + t.m ≤ o.rest
  pub rest_formed : Formed s o.rest t.n (get_or s (o.rest + t.n) 0)
  pub rest_rising : (i : ℕ) → i < t.n → Rising t.m (row_at s o.rest i)
  pub rest_before : get_or s (o.rest + t.n) 0 ≤ o.clumps
  pub clumps_formed : Formed s o.clumps o.k (get_or s (o.clumps + o.k) 0)
  pub clumps_rising : (x : ℕ) → x < o.k → Rising t.m (row_at s o.clumps x)
  pub clumps_before : get_or s (o.clumps + o.k) 0 ≤ o.made
  pub values_behind : lists_from ≤ t.ins
  pub values_before : t.ins + t.n ≤ to
  pub room : o.made + o.k + (t.m + 1 + members_at s o.clumps o.k) + (t.m + 1 + members_at s o.rest t.n) ≤ length s
  pub front : FrontRoom p s r (members_at s o.clumps o.k + members_at s o.rest t.n)
  pub small : length s < 2 ^ 32
