-- Method 3's chain: after the squarings and the groups' tables each payslip makes its amounts, and squarings, tables and payslips add up to the count.
use mathlib.Core.Path.{◌≡◌, ap, ap₂, ◌∙◌}
use mathlib.Core.List.{List}
use Prim.Native.Nat.{ℕ, ◌+◌, ◌-◌, ◌*◌, ◌≤◌, ◌<◌}
use native.Mathlib.Nat.{le_refl}
use native.Mathlib.Omega.{arith}
use lib.ListN.{length, get_or}
use Rattle.chain.specs.Chain.{most_amount}
use Rattle.chain.specs.declared.Step.{Step}
use Rattle.digits.specs.Range.{sum_to}
use Rattle.digits.proofs.Range.{sum_low, signs_low}
use Rattle.sheet.specs.Sheet.{amount}
use Rattle.products.proofs.Sound.{Begins, Sound}
use Rattle.products.proofs.Product.{Result, result_like}
use Rattle.methods.proofs.Powers.{squarings_count}
use Rattle.methods.proofs.Payslips.{Pays, payslips_make, payslips_count_lem}
use Rattle.groups.specs.Groups.{column_squarings, group, group_count, input_count, inputs, selection, sheet_squarings, sheet_tables, squaring_count, tables_count, weigh}
use Rattle.groups.proofs.Members.{exponent_in, members_count, members_some, selection-sum, selection_two}
use Rattle.groups.proofs.Parts.{uses}
use Rattle.groups.proofs.Prepared.{selected, selection_long, sheet_tables_lem}
use Rattle.groups.proofs.Tables.{tables_count_lem}
use Rattle.partition.specs.Partition.{join_count, partition, partition_ceiling, partition_count, partition_payslip}
use Rattle.partition.proofs.Parts.{parts_count, parts_make}

-- the count keeps to the ceiling
pub partition_ceiling_lem : (p q : ℕ) (amounts : List ℕ) (c : ℕ) → partition_count p q amounts c ≤ partition_ceiling p q amounts c
unfolding partition_count partition_ceiling
partition_ceiling_lem p q amounts c =
    let G : ℕ = group_count c (input_count p q amounts) in
    let joins =
    sum_low q (join_count p q amounts c G) (G - 1) (λ i h. omega (arith, signs_low G (λ g. weigh (group c g (selection p q amounts i))))) in
    omega arith

module _ (p q : ℕ) (amounts : List ℕ) (c : ℕ) where
  abbrev G : ℕ
  G = group_count c (input_count p q amounts)

  abbrev members : List ℕ
  members = inputs p q amounts

  abbrev squares : List Step
  squares = sheet_squarings p q amounts

  -- the steps are as many as the count
  pub partition_count_lem : length (partition p q amounts c).steps ≡ partition_count p q amounts c
  unfolding partition partition_count
  partition_count_lem =
      payslips_count_lem (partition_payslip p q amounts c) (sheet_tables p q amounts c) (join_count p q amounts c G) q each
      ∙ ap (λ (s : ℕ). s + sum_to q (join_count p q amounts c G)) (tables_count_lem p c members squares G ∙ ap₂ ◌+◌ squared tabled)
    where
      each : (i : ℕ) → i < q → (before : List Step) → length (partition_payslip p q amounts c i before).steps ≡ length before + join_count p q amounts c G i
      each i h before =
          parts_count p c members squares (selection p q amounts i) (selection_long p q amounts i) (selection_two p q amounts i) (members_some p q amounts) before G

      squared : length squares ≡ squaring_count p q amounts
      squared = squarings_count p (column_squarings p q amounts) p

      tabled : tables_count c (length members) G ≡ tables_count c (input_count p q amounts) G
      tabled = ap (λ (w : ℕ). tables_count c w G) (members_count p q amounts)

  -- every payslip is made, within the limit
  pub partition_pays : 1 ≤ c → ((j : ℕ) → get_or amounts j 0 ≤ most_amount)
      → Pays p most_amount (sheet_tables p q amounts c) (amount p amounts) q (partition p q amounts c)
  unfolding partition
  partition_pays some low =
      payslips_make p most_amount (partition_payslip p q amounts c) (sheet_tables p q amounts c) (amount p amounts) q (sheet_tables_lem p q amounts low c G).sound each
    where
      x : ℕ → ℕ → ℕ
      x = exponent_in p q amounts

      each : (i : ℕ) → i < q → (before : List Step) → Sound p most_amount before → Begins (sheet_tables p q amounts c) before
          → Result p most_amount before (partition_payslip p q amounts c i before) (amount p amounts i)
      each i h before s b = result_like (λ d g. selected p q amounts c some i d h g) made
        where
          own : List ℕ
          own = selection p q amounts i

          within : (d : ℕ) → d < p → sum_to (length members) (λ j. get_or own j 0 * x j d) ≤ most_amount
          within d g = rw (members_count p q amounts, selection-sum p q amounts i d h g) (low (i * p + d))

          made : Result p most_amount before (partition_payslip p q amounts c i before) (uses c members own (selection_long p q amounts i) (selection_two p q amounts i) x G)
          made =
              parts_make p c members squares own (selection_long p q amounts i) (selection_two p q amounts i) most_amount x within G
              (sheet_tables_lem p q amounts low c G) before s b G (le_refl G)
