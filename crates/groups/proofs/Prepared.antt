-- A sheet's squarings make its inputs, whose exponents together stay below 2^32 in each column; so its groups' tables are made within the limit.
use mathlib.Core.Path.{◌≡◌, sym, ap, ◌∙◌}
use mathlib.Core.List.{List}
use Prim.Native.Nat.{ℕ, ◌*◌, ◌≤◌, ◌<◌}
use native.Mathlib.Nat.{le_refl, le_trans}
use native.Mathlib.Omega.{arith}
use lib.ListN.{length, get_or}
use lib.Pow.{pow_mono}
use Rattle.chain.specs.Chain.{most_amount}
use Rattle.digits.specs.Range.{sum_to}
use Rattle.sheet.specs.Sheet.{amount}
use Rattle.methods.specs.Powers.{squarings}
use Rattle.methods.proofs.Powers.{Powers, powers}
use Rattle.groups.specs.Groups.{column_squarings, group_count, input_count, inputs, selection}
use Rattle.groups.proofs.Groups.{reached, reached_all}
use Rattle.groups.proofs.Members.{column_bits_lem, exponent_in, members_count, members_make, members-sum, selection_count, selection-sum}
use Rattle.groups.proofs.Members.{selection_two}
use Rattle.groups.proofs.Parts.{uses}
use Rattle.groups.proofs.Tables.{Tabled, tables_make}

module _ (p q : ℕ) (amounts : List ℕ) where
  pub selection_long : (i : ℕ) → length (selection p q amounts i) ≡ length (inputs p q amounts)
  selection_long i = selection_count p q amounts i ∙ sym (members_count p q amounts)

  -- all that a payslip uses is its amounts
  pub selected : (c : ℕ) → 1 ≤ c → (i d : ℕ) → i < q → d < p
      → uses c (inputs p q amounts) (selection p q amounts i) (selection_long i) (selection_two p q amounts i) (exponent_in p q amounts)
      (group_count c (input_count p q amounts)) d
      ≡ amount p amounts i d
  selected c some i d h g =
      ap (λ (k : ℕ). sum_to k (λ j. get_or (selection p q amounts i) j 0 * exponent_in p q amounts j d)) all ∙ selection-sum p q amounts i d h g
    where
      all : reached c (length (inputs p q amounts)) (group_count c (input_count p q amounts)) ≡ input_count p q amounts
      all = rw (members_count p q amounts) (reached_all c (input_count p q amounts) some)

  module _ (low : (j : ℕ) → get_or amounts j 0 ≤ most_amount) where
    abbrev n : ℕ → ℕ
    n = column_squarings p q amounts

    -- the squarings
    pub sheet_powers : Powers p most_amount n p
    sheet_powers =
        powers p most_amount n (omega arith)
        (λ d h. let few = column_bits_lem p q amounts low d in le_trans (pow_mono {j = 31} (omega arith)) (omega arith)) p (le_refl p)

    -- the groups' tables
    pub sheet_tables_lem : (c G : ℕ) → Tabled p most_amount c (inputs p q amounts) (squarings p n p) (exponent_in p q amounts) G
    sheet_tables_lem c G =
        let made = members_make p q amounts most_amount sheet_powers in
        tables_make p most_amount c (inputs p q amounts) (squarings p n p) (exponent_in p q amounts) made sums sheet_powers.sound G
      where
        sums : (d : ℕ) → d < p → sum_to (length (inputs p q amounts)) (λ j. exponent_in p q amounts j d) ≤ most_amount
        sums d h =
            let few = pow_mono {j = 32} (column_bits_lem p q amounts low d) in
            rw (members_count p q amounts) (omega (arith, members-sum p q amounts d h))
