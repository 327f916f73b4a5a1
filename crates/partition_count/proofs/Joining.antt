-- The steps of a payslip are counted by the signs of its parts' numbers, one less than they add up to; the payslips' are added up.
use mathlib.Core.Path.{◌≡◌, sym, ap, ap₂, ◌∙◌}
use mathlib.Core.List.{List}
use Prim.Native.Nat.{ℕ, ◌+◌, ◌-◌, ◌*◌, ◌≤◌}
use native.Mathlib.Nat.{mul-le-mul}
use native.Mathlib.Omega.{arith}
use lib.ListN.{length, get_or, take}
use Rattle.chain.specs.Chain.{most_payslips}
use Rattle.chain.specs.Written.{over}
use Rattle.digits.specs.Range.{sum_to, sign}
use Rattle.digits.proofs.Range.{sum_on, sum_same}
use Rattle.methods.specs.Inner.{QuoteOf}
use Rattle.groups.specs.declared.Grouping.{Grouping}
use Rattle.groups.specs.Groups.{most_inputs, tables_count}
use Rattle.groups.specs.Inner.{Grouped, part_numbers}
use Rattle.groups.proofs.Measured.{grouped_count, numbers_at, numbers_long}
use Rattle.partition.specs.Partition.{join_count, partition_count, partition_ceiling}
use Rattle.partition.specs.Method.{partition_method}

-- how many parts are not empty, of the first n
abbrev pub signs_to : List ℕ → ℕ → ℕ
signs_to numbers n = sum_to n (λ g. sign (get_or numbers g 0))

pub signs_on : (numbers : List ℕ) (n g r : ℕ) → r ≡ sign (get_or numbers g 0) → n ≡ signs_to numbers g → n + r ≡ signs_to numbers (g + 1)
signs_on numbers n g r told e = sum_on (λ k. sign (get_or numbers k 0)) g n r told e

-- the cells hold the numbers of payslip i's parts
pub joins_told : (s : Grouping) (amounts : List ℕ) (i : ℕ) (old cells : List ℕ) → cells ≡ over (part_numbers s amounts i) old
    → (r : ℕ) → r ≡ signs_to (take s.groups cells) (length (take s.groups cells)) - 1 → r ≡ join_count s.p s.q amounts s.c s.groups i
joins_told s amounts i old cells e r is =
    is
    ∙ ap (λ (n : ℕ). signs_to (take s.groups cells) n - 1) (sym (numbers_long s amounts i old cells e))
    ∙ ap (λ (n : ℕ). n - 1) (sum_same s.groups _ _ (λ g h. ap sign (numbers_at s amounts i old cells e g h)))

-- the squarings, the tables and the payslips of a grouped sheet; for the ceiling a payslip has a part of every group
pub quote_all : (s : Grouping) (amounts bits : List ℕ) → Grouped s amounts bits → (b r l : ℕ) → b ≡ tables_count s.c s.inputs s.groups
    → r ≡ sum_to s.q (join_count s.p s.q amounts s.c s.groups) → l ≡ s.groups - 1
    → QuoteOf (record { count = s.squarings + b + r; ceiling = s.squarings + b + s.q * l }) (partition_method s.p s.q amounts s.c)
unfolding partition_count partition_ceiling
quote_all s amounts bits grouped b r l tables joins most =
    let G = grouped_count grouped in
    let before = ap₂ ◌+◌ grouped.squarings_are (tables ∙ ap₂ (tables_count s.c) grouped.inputs_are G) in
    record {
      count_is = ap₂ ◌+◌ before (joins ∙ ap (λ (n : ℕ). sum_to s.q (join_count s.p s.q amounts s.c n)) G);
      ceiling_is = ap₂ ◌+◌ before (ap (λ (n : ℕ). s.q * n) (most ∙ ap (λ (n : ℕ). n - 1) G));
    }

-- few payslips with few parts each
pub most_fits : (s : Grouping) (amounts bits : List ℕ) → Grouped s amounts bits → (l : ℕ) → l ≡ s.groups - 1 → s.q * l ≤ most_payslips * most_inputs
most_fits s amounts bits grouped l e =
    let low : l ≤ most_inputs = omega (arith, grouped.cuts.groups_few) in
    mul-le-mul grouped.sheet.q_low low
