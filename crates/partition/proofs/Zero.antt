-- A payslip that is all 0 has no part that is not empty; any other has one, for without one it would use nothing (Spec 3.7).
use mathlib.Core.Path.{◌≡◌, sym, ap, ◌∙◌}
use mathlib.Core.List.{List}
use Prim.Native.Nat.{ℕ, zero, suc, ◌+◌, ◌*◌, ◌^◌, ◌≤◌, ◌<◌}
use native.Mathlib.Decide.{dec_lt}
use native.Mathlib.Nat.{zero-mul}
use native.Mathlib.Omega.{arith}
use lib.ListN.{length, get_or}
use Rattle.digits.specs.Range.{sum_to, max_to, sign}
use Rattle.digits.proofs.Range.{sum-zero, le_sum, max_none, max_attained, sign_some}
use Rattle.sheet.specs.Sheet.{amount}
use Rattle.tables.proofs.Entries.{combined, combined_zero}
use Rattle.groups.specs.Groups.{group, group_count, input_count, inputs, selection, weigh}
use Rattle.groups.proofs.Members.{exponent_in, selection_none, selection_two}
use Rattle.groups.proofs.Groups.{get_d_group, group_within, length-group, weigh_vector}
use Rattle.groups.proofs.Parts.{uses, uses_none, uses_on}
use Rattle.groups.proofs.Prepared.{selected, selection_long}
use Rattle.partition.specs.Partition.{join_count}

module _ (p q : ℕ) (amounts : List ℕ) (c i : ℕ) where
  abbrev members : List ℕ
  members = inputs p q amounts

  abbrev own : List ℕ
  own = selection p q amounts i

  abbrev x : ℕ → ℕ → ℕ
  x = exponent_in p q amounts

  -- the number of the payslip's part of group g
  abbrev part : ℕ → ℕ
  part g = weigh (group c g own)

  -- a payslip that is all 0 takes no step
  pub zero_payslip : ((d : ℕ) → d < p → amount p amounts i d ≡ 0) → (n : ℕ) → join_count p q amounts c n i ≡ 0
  zero_payslip none n = omega (arith, sum-zero n (λ g. sign (part g)) (λ g h. ap sign (empty g)))
    where
      none_taken : (g j : ℕ) → j < length (group c g own) → get_or (group c g own) j 0 ≡ 0
      none_taken g j h =
          let inside = group_within c g (length own) j (omega (arith, length-group c g own)) in
          get_d_group c g own j h ∙ selection_none p q amounts i none (g * c + j) inside

      empty : (g : ℕ) → part g ≡ 0
      empty g =
          weigh_vector (group c g own)
          ∙ sum-zero (length (group c g own)) _ (λ j h. ap (λ (b : ℕ). b * 2 ^ (1 * j)) (none_taken g j h) ∙ zero-mul (2 ^ (1 * j)))

  -- a payslip whose parts of the first n groups are empty uses nothing of these
  unused : (d n : ℕ) → ((g : ℕ) → g < n → part g ≡ 0)
      → uses c members own (selection_long p q amounts i) (selection_two p q amounts i) x n d ≡ 0
  unused d zero none = sym (uses_none c members own (selection_long p q amounts i) (selection_two p q amounts i) x d)
  unused d (suc n) none =
      sym (uses_on c members own (selection_long p q amounts i) (selection_two p q amounts i) x n d)
      ∙ omega (arith, unused d n (λ g h. none g (omega arith)), last)
    where
      last : combined 1 (length (group c n members)) (λ j. x (n * c + j)) (part n) d ≡ 0
      last = rw (none n (omega arith)) (combined_zero 1 (length (group c n members)) (omega arith) (λ j. x (n * c + j)) d)

  -- the parts that are not empty, less 1, for a payslip with an amount that is not 0
  pub some_parts : 1 ≤ c → i < q → (d : ℕ) → d < p → 0 < amount p amounts i d
      → join_count p q amounts c (group_count c (input_count p q amounts)) i + 1
      ≡ sum_to (group_count c (input_count p q amounts)) (λ g. sign (part g))
  some_parts some h d g used = by_size (dec_lt 0 (max_to G part))
    where
      G : ℕ
      G = group_count c (input_count p q amounts)

      by_size : Dec (0 < max_to G part) → join_count p q amounts c G i + 1 ≡ sum_to G (λ g. sign (part g))
      by_size (yes lt) =
          let a = max_attained G part lt in
          omega (arith, le_sum G (λ g. sign (part g)) a.place a.below, sign_some (part a.place) (omega (arith, a.largest)))
      by_size (no ge) = absurd (omega (arith, unused d G ((max_none G part).0 (omega arith)), selected p q amounts c some i d h g))
