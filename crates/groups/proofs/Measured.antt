-- A measured slice holds the columns' bits, so what is added up over it is what is added up over the columns, and 32 bits a column bound it.
use mathlib.Core.Path.{◌≡◌, refl, sym, ap, ◌∙◌, ap₂}
use mathlib.Core.List.{List}
use Prim.Native.Nat.{ℕ, ◌+◌, ◌-◌, ◌^◌, ◌≤◌, ◌<◌}
use native.Mathlib.Decide.{dec_lt}
use native.Mathlib.Omega.{arith}
use lib.ListN.{length, get_or, take, get_or-eq_default}
use Rattle.chain.specs.Written.{over}
use Rattle.chain.proofs.Written.{take-over}
use Rattle.digits.specs.Digits.{bit_length, digit_count}
use Rattle.digits.specs.Range.{sum_to, list_to}
use Rattle.digits.proofs.Range.{sum_same}
use Rattle.methods.specs.Powers.{counts_of, squarings, power_at, power_of}
use Rattle.methods.specs.Inner.{Largest, AskedByLargest, digits_at}
use Rattle.methods.proofs.Columns.{squarings_same}
use Rattle.measuring.proofs.Columns.{digits_low}
use Rattle.methods.proofs.Filling.{filled_front, filled-length}
use Rattle.groups.specs.declared.Grouping.{Grouping}
use Rattle.chain.specs.Chain.{most_columns, most_steps}
use Rattle.chain.specs.declared.Step.{Step}
use Rattle.products.specs.Inner.{begun, StepsStored, StepsRoom}
use Rattle.products.specs.declared.Progress.{Progress}
use Rattle.digits.proofs.Listed.{get_d_list, length-list, list_same}
use Rattle.groups.specs.Groups.{column_bits, column_squarings, group, group_count, group_tables, input_count, inputs, most_inputs}
use Rattle.groups.specs.Groups.{most_members, over_inputs, selection, sheet_squarings, sheet_tables, weigh}
use Rattle.digits.specs.Inner.{Bounded}
use Rattle.groups.specs.Inner.{Grouped, GroupedBy, GroupedFor, GroupingAsked, GroupsMade, GroupsRoom, Narrow, bit_inputs, bit_squarings, bit_tables}
use Rattle.groups.specs.Inner.{bits_less, part_numbers}
use Rattle.groups.proofs.Counting.{less_to}
use Rattle.groups.proofs.Inputs.{over_same}
use Rattle.groups.proofs.Members.{members_count}

-- the columns' bits in a slice
module _ (p q : ℕ) (amounts bits : List ℕ) (is : bits ≡ list_to p (column_bits p q amounts)) where
  pub bits_at : (col : ℕ) → col < p → get_or bits col 0 ≡ column_bits p q amounts col
  bits_at col h = ap (λ (l : List ℕ). get_or l col 0) is ∙ get_d_list p (column_bits p q amounts) 0 col h

  pub bits_long : length bits ≡ p
  bits_long = ap length is ∙ length-list p (column_bits p q amounts)

  less_told : (less r : ℕ) → r ≡ less_to bits less (length bits) → r ≡ sum_to p (λ col. column_bits p q amounts col - less)
  less_told less r e = e ∙ ap (less_to bits less) bits_long ∙ sum_same p _ _ (λ col h. ap (λ (n : ℕ). n - less) (bits_at col h))

  pub bits_sum : sum_to (length bits) (counts_of bits) ≡ input_count p q amounts
  bits_sum = ap (λ (n : ℕ). sum_to n (counts_of bits)) bits_long ∙ sum_same p _ _ bits_at

-- the cells that columns with these largest amounts are measured into
module _ (p : ℕ) (largest old cells : List ℕ) (e : cells ≡ over (list_to p (digits_at 1 largest)) old) where
  measured : take p cells ≡ list_to p (digits_at 1 largest)
  measured = filled_front (digits_at 1 largest) old p cells e

  pub measured_long : p ≡ length (take p cells)
  measured_long = filled-length (digits_at 1 largest) old p cells e

  pub measured_narrow : p ≤ most_columns → ((col : ℕ) → get_or largest col 0 < 2 ^ 32) → Narrow (take p cells)
  measured_narrow h low = record { columns = omega (arith, measured_long); each = λ col. by_place col (dec_lt col p) }
    where
      by_place : (col : ℕ) → Dec (col < p) → get_or (take p cells) col 0 ≤ 32
      by_place col (yes lt) = rw (measured, get_d_list p (digits_at 1 largest) 0 col lt) (digits_low 1 (get_or largest col 0) _ (omega arith) (low col) refl)
      by_place col (no ge) = rw (get_or-eq_default (take p cells) 0 {n = col} (omega (arith, measured_long))) (omega arith)

-- their grouping, from what their bits add up to
pub columns_grouped : (s : Grouping) (largest old cells : List ℕ) → GroupingAsked s.p s.c largest old
    → cells ≡ over (list_to s.p (digits_at 1 largest)) old
    → Bounded s.inputs (less_to (take s.p cells) 0 (length (take s.p cells))) most_inputs
    → Bounded s.groups (group_count s.c s.inputs) most_inputs
    → Bounded s.squarings (less_to (take s.p cells) 1 (length (take s.p cells))) most_inputs
    → GroupedBy s.p s.q s.c largest (take s.p cells) s
columns_grouped s largest old cells asked e w G n =
    record {
      cuts =
          record {
            columns = asked.columns;
            some = asked.some;
            few = asked.few;
            groups_are = G.is;
            inputs_few = w.low;
            groups_few = G.low;
            squarings_few = n.low;
          };
      bits_are = measured s.p largest old cells e;
      inputs_are = w.is;
      squarings_are = n.is;
      same_p = refl;
      same_q = refl;
      same_c = refl;
    }

-- a sheet's largest amounts have its columns' bits
sheet_bits : {p q : ℕ} {amounts largest bits : List ℕ} → Largest p q amounts largest → bits ≡ list_to p (digits_at 1 largest) → bits ≡ list_to p (column_bits p q amounts)
unfolding column_bits bit_length
sheet_bits {p} {q} {amounts} {largest} l e = e ∙ list_same p (digits_at 1 largest) (column_bits p q amounts) (λ col h. ap (digit_count 1) (l.are col h))

-- so the grouping of its columns is the sheet's
pub sheet_grouped : {p q : ℕ} {amounts : List ℕ} {c : ℕ} {largest bits : List ℕ} {s : Grouping} → AskedByLargest most_members p q amounts c largest
    → GroupedBy p q c largest bits s → GroupedFor p q amounts c bits s
sheet_grouped {p} {q} {amounts} {c} {largest} {bits} {s} asked b =
    let is = sheet_bits asked.largest b.bits_are in
    record {
      grouped =
          record {
            cuts = b.cuts;
            sheet = rw (b.same_p, b.same_q) asked.ranges.sheet;
            bits_are = rw (b.same_p, b.same_q) is;
            inputs_are = rw (b.same_p, b.same_q) (less_told p q amounts bits is 0 s.inputs b.inputs_are ∙ sum_same p _ _ (λ col h. omega arith));
            squarings_are = rw (b.same_p, b.same_q) (less_told p q amounts bits is 1 s.squarings b.squarings_are);
          };
      same_p = b.same_p;
      same_q = b.same_q;
      same_c = b.same_c;
    }

-- what a grouped sheet's bits say
module _ {s : Grouping} {amounts bits : List ℕ} (grouped : Grouped s amounts bits) where
  abbrev width : ℕ → ℕ
  width = column_bits s.p s.q amounts

  abbrev squared : ℕ → ℕ
  squared = column_squarings s.p s.q amounts

  abbrev less : ℕ → ℕ
  less = bits_less bits 1

  pub grouped_at : (col : ℕ) → col < s.p → get_or bits col 0 ≡ width col
  grouped_at = bits_at s.p s.q amounts bits grouped.bits_are

  pub grouped_long : length bits ≡ s.p
  grouped_long = bits_long s.p s.q amounts bits grouped.bits_are

  pub grouped_few : input_count s.p s.q amounts ≤ most_inputs
  grouped_few = let few = grouped.cuts.inputs_few in omega (arith, grouped.inputs_are)

  pub grouped_count : s.groups ≡ group_count s.c (input_count s.p s.q amounts)
  grouped_count = grouped.cuts.groups_are ∙ ap (group_count s.c) grouped.inputs_are

  pub grouped_inputs : bit_inputs bits (length bits) ≡ inputs s.p s.q amounts
  unfolding inputs
  grouped_inputs =
      ap (λ (n : ℕ). over_inputs (counts_of bits) (power_of n less) n) grouped_long
      ∙ over_same (counts_of bits) width (power_of s.p less) (power_of s.p squared) s.p grouped_at (λ col j h. ap (λ (k : ℕ). power_at col (s.p + k) j) (before col h))
    where
      before : (col : ℕ) → col < s.p → sum_to col less ≡ sum_to col squared
      before col h = sum_same col less squared (λ d g. ap (λ (n : ℕ). n - 1) (grouped_at d (omega arith)))

  -- the squarings
  pub grouped_squarings : bit_squarings bits ≡ sheet_squarings s.p s.q amounts
  grouped_squarings =
      ap (λ (n : ℕ). squarings n less n) grouped_long
      ∙ squarings_same s.p less squared s.p (λ col h. ap (λ (n : ℕ). n - 1) (grouped_at col h))

  -- the tables
  grouped_tables : bit_tables s bits ≡ sheet_tables s.p s.q amounts s.c
  grouped_tables =
      ap₂ (λ (m : List ℕ) (l : List Step). group_tables s.p s.c m l s.groups) grouped_inputs grouped_squarings
      ∙ ap (group_tables s.p s.c (inputs s.p s.q amounts) (sheet_squarings s.p s.q amounts)) grouped_count

  pub groups_room : (members steps : List ℕ) → most_inputs ≤ length members → length (sheet_tables s.p s.q amounts s.c) ≤ most_steps
      → StepsRoom s.p steps begun (sheet_tables s.p s.q amounts s.c) → GroupsRoom s bits members steps
  groups_room members steps room few steps_room =
      record {
        cuts = grouped.cuts;
        bits_long = grouped_long;
        bits_sum = bits_sum s.p s.q amounts bits grouped.bits_are ∙ sym grouped.inputs_are;
        members_room = room;
        few = rw grouped_tables few;
        steps_room = rw grouped_tables steps_room;
      }

  -- made, they are the sheet's
  module _ {members₀ steps₀ members steps : List ℕ} {n : Progress} (made : GroupsMade s bits members₀ steps₀ members steps n) where
    pub sheet_stored : StepsStored steps₀ steps n (sheet_tables s.p s.q amounts s.c)
    sheet_stored = rw grouped_tables at made.stored

    pub sheet_inputs : take s.inputs members ≡ inputs s.p s.q amounts
    sheet_inputs =
        ap (take s.inputs) (made.members_are ∙ ap (λ (l : List ℕ). over l members₀) grouped_inputs)
        ∙ take-over s.inputs (inputs s.p s.q amounts) members₀ (members_count s.p s.q amounts ∙ sym grouped.inputs_are)

-- the cells hold the numbers of payslip i's parts
module _ (s : Grouping) (amounts : List ℕ) (i : ℕ) (old cells : List ℕ)
    (e : cells ≡ over (part_numbers s amounts i) old) where
  numbers_are : take s.groups cells ≡ part_numbers s amounts i
  numbers_are = filled_front _ old s.groups cells e

  pub numbers_long : s.groups ≡ length (take s.groups cells)
  numbers_long = filled-length _ old s.groups cells e

  pub numbers_at : (g : ℕ) → g < s.groups → get_or (take s.groups cells) g 0 ≡ weigh (group s.c g (selection s.p s.q amounts i))
  numbers_at g h = ap (λ (l : List ℕ). get_or l g 0) numbers_are ∙ get_d_list s.groups _ 0 g h
