-- Method 3, partition, with parameter c (Spec 3.7): the first level of Pippenger's recursion, over binary digits.
-- The squarings, the groups and their tables stand in groups.
use Rattle.std.specs.Prelude.{List, ℕ, zero, suc, ◌+◌, ◌-◌, ◌*◌, length}
use Rattle.chain.specs.Chain.{Chain}
use Rattle.chain.specs.declared.Step.{Step}
use Rattle.digits.specs.Range.{sum_to, sign}
use Rattle.products.specs.Product.{Made, made, times, payslips}
use Rattle.tables.specs.Table.{entry}
use Rattle.groups.specs.Groups.{group, group_count, group_tables, input_count, inputs, selection, sheet_squarings, sheet_tables, squaring_count, tables_count, weigh}

-- Spec 3.7: a payslip's product after the parts of the first g groups; an empty part changes nothing
abbrev pub parts : ℕ → ℕ → List ℕ → List Step → List ℕ → List Step → ℕ → Made
parts p c members start bits before zero = made before 0
parts p c members start bits before (suc g) =
    times p (parts p c members start bits before g)
    (entry 1 (group c g members) (p + length (group_tables p c members start g) + 1) (weigh (group c g bits)))

-- of a sheet
module _ (p q : ℕ) (amounts : List ℕ) (c : ℕ) where
  -- Spec 3.7: the parts of payslip i that are not empty, over n groups, less 1
  abbrev pub join_count : ℕ → ℕ → ℕ
  join_count n i = sum_to n (λ g. sign (weigh (group c g (selection p q amounts i)))) - 1

  -- payslip i after the steps before it
  abbrev pub partition_payslip : ℕ → List Step → Made
  partition_payslip i before =
      parts p c (inputs p q amounts) (sheet_squarings p q amounts) (selection p q amounts i) before (group_count c (input_count p q amounts))

  unfoldable pub partition : Chain
  partition = payslips partition_payslip (sheet_tables p q amounts c) q

  -- Spec 3.7: the count; a payslip of zeros has no part and adds nothing
  unfoldable pub partition_count : ℕ
  partition_count =
      let w = input_count p q amounts in
      squaring_count p q amounts + tables_count c w (group_count c w) + sum_to q (join_count (group_count c w))

  -- Spec 3.7, Req 04: the ceiling, with each group's table at the group's own size; where w is 0, so are the squarings and the groups
  unfoldable pub partition_ceiling : ℕ
  partition_ceiling =
      let w = input_count p q amounts in
      squaring_count p q amounts + tables_count c w (group_count c w) + q * (group_count c w - 1)
