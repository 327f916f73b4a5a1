-- The ceiling as the specification says it (3.7, Req 04): the formula, in which each group counts by the inputs that it has. Were every group full, it would
-- be no less. It is 0 without inputs, where there is neither a squaring nor a group.
use mathlib.Core.Path.{◌≡◌, sym, ap, ap₂, ◌∙◌}
use mathlib.Core.List.{List}
use Prim.Native.Nat.{ℕ, ◌+◌, ◌-◌, ◌*◌, ◌≤◌}
use native.Mathlib.Nat.{mul-zero}
use native.Mathlib.Omega.{arith}
use lib.ListN.{length}
use Rattle.digits.specs.Range.{sum_to}
use Rattle.digits.proofs.Range.{sum_same}
use Rattle.groups.specs.Groups.{columns_used, group, group_count, group_size, input_count, inputs, table_steps, tables_count}
use Rattle.groups.proofs.Counting.{groups_low, tables_full}
use Rattle.groups.proofs.Groups.{length-group}
use Rattle.groups.proofs.Members.{members_count}
use Rattle.groups.proofs.Squarings.{squarings_are}
use Rattle.partition.specs.Partition.{partition_ceiling}

module _ (p q : ℕ) (amounts : List ℕ) (c : ℕ) where
  abbrev w : ℕ
  w = input_count p q amounts

  abbrev G : ℕ
  G = group_count c w

  -- the steps of the table of group g
  abbrev tabled : ℕ → ℕ
  tabled g = table_steps (length (group c g (inputs p q amounts)))

  grouped : tables_count c w G ≡ sum_to G tabled
  grouped = sum_same G _ _ (λ g h. ap table_steps (sym (own g)))
    where
      own : (g : ℕ) → length (group c g (inputs p q amounts)) ≡ group_size c w g
      own g = length-group c g (inputs p q amounts) ∙ ap (λ (n : ℕ). group_size c n g) (members_count p q amounts)

  pub ceiling_some : partition_ceiling p q amounts c ≡ w - columns_used p q amounts + sum_to G tabled + q * (G - 1)
  unfolding partition_ceiling
  ceiling_some = ap₂ (λ (n m : ℕ). n + m + q * (G - 1)) (squarings_are p q amounts) grouped

  -- with every group a full one
  pub ceiling_low : partition_ceiling p q amounts c ≤ w - columns_used p q amounts + G * table_steps c + q * (G - 1)
  unfolding partition_ceiling
  ceiling_low = omega (arith, squarings_are p q amounts, tables_full c w G)

  -- without inputs there is nothing to add up
  pub ceiling_none : 1 ≤ c → input_count p q amounts ≡ 0 → partition_ceiling p q amounts c ≡ 0
  ceiling_none some e =
      let no-groups : G ≡ 0 = omega (arith, groups_low c w some) in
      let tables : sum_to G tabled ≡ 0 = ap (λ (g : ℕ). sum_to g tabled) no-groups in
      let joins : q * (G - 1) ≡ 0 = ap (λ (g : ℕ). q * (g - 1)) no-groups ∙ mul-zero q in
      omega (arith, ceiling_some)
