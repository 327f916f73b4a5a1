-- Method 4, clumping, with parameter c and a pair for each level (Req 06): levels 2 to 4 of Pippenger's recursion over the groups of method 3.
-- The squarings and the groups' tables stand in groups, the levels in clumps.
use Rattle.std.specs.Prelude.{Bool, ◌&&◌, ℕ, ◌+◌, ◌*◌, ◌/◌, ◌%◌, ◌^◌, get_or}
use Rattle.std.proofs.Math.Bool.{not, cond}
use mathlib.Core.List.{List, [], map}
use Rattle.std.proofs.Math.ListN.{length}
use Rattle.chain.specs.Tests.{◌=?◌}
use Rattle.chain.specs.Chain.{Chain}
use Rattle.digits.specs.Range.{list_to}
use Rattle.tables.specs.Table.{entry}
use Rattle.groups.specs.Groups.{group, group_count, group_tables, input_count, inputs, selection, sheet_squarings, sheet_tables, weigh}
use Rattle.clumps.specs.Lists.{which, some_below}
use Rattle.clumps.specs.Clumps.{Level}
use Rattle.clumps.specs.Levels.{clump_outputs}

-- Req 06: how many numbers of scratch compile is lent for this method
abbrev pub clumping_scratch : ℕ
clumping_scratch = 600000

-- of a sheet
module _ (p q : ℕ) (amounts : List ℕ) (c : ℕ) where
  abbrev pub sheet_groups : ℕ
  sheet_groups = group_count c (input_count p q amounts)

  -- Spec 3.7: the numbers t of payslip i's parts, group by group, 0 for an empty part
  unfoldable pub parts_of : ℕ → List ℕ
  parts_of i = list_to sheet_groups (λ g. weigh (group c g (selection p q amounts i)))

  -- Part t of group g has the number g 2^c + t: so they rise by group and then by t. A payslip whose parts are these uses it.
  abbrev pub uses : List ℕ → ℕ → Bool
  uses parts k = not (k % 2 ^ c =? 0) && (get_or parts (k / 2 ^ c) 0 =? k % 2 ^ c)

  -- Req 06: level 2's inputs, the group parts that some payslip uses, by group and then rising t
  unfoldable pub used : List ℕ
  unfolding parts_of
  used = let slips = list_to q parts_of in which (λ k. some_below (λ i. uses (get_or slips i []) k) q) (sheet_groups * 2 ^ c)

  -- Spec 3.7: the value number of part t of group g
  abbrev pub part_value : ℕ → ℕ → ℕ
  part_value g t =
      let members = inputs p q amounts in
      entry 1 (group c g members) (p + length (group_tables p c members (sheet_squarings p q amounts) g) + 1) t

  unfoldable pub used_values : List ℕ
  unfolding used
  used_values = map (λ k. part_value (k / 2 ^ c) (k % 2 ^ c)) used

  -- a payslip is not zero if one of its parts is not empty; the first n payslips that are not
  unfoldable pub is_nonzero : ℕ → Bool
  unfolding parts_of
  is_nonzero i = let parts = parts_of i in some_below (λ g. not (get_or parts g 0 =? 0)) sheet_groups

  abbrev pub nonzero : ℕ → List ℕ
  nonzero n = which is_nonzero n

  -- Req 06: level 2's outputs, the nonzero payslips
  unfoldable pub wanted : List (List ℕ)
  unfolding parts_of used is_nonzero
  wanted =
      let ins = used in
      map (λ i. let parts = parts_of i in which (λ x. uses parts (get_or ins x 0)) (length ins)) (nonzero q)

  -- Req 06: the squarings and the tables first, then the levels; Spec 3.2: a zero payslip has output 0 and no step
  unfoldable pub clumping : List Level → Chain
  unfolding used_values wanted is_nonzero
  clumping levels =
      let done = clump_outputs levels p used_values wanted (sheet_tables p q amounts c) in
      record { steps = done.steps; outputs = list_to q (λ i. cond (is_nonzero i) (get_or done.outputs (length (nonzero i)) 0) 0) }

  -- Req 06: the count, equal to the steps
  unfoldable pub clumping_count : List Level → ℕ
  unfolding clumping
  clumping_count levels = length (clumping levels).steps
