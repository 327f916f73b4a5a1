-- Numbers held against a limit are fine exactly if none is above it; one by one they are judged as any list is.
use mathlib.Core.Path.{◌≡◌, sym}
use mathlib.Core.List.{List}
use Prim.Native.Nat.{ℕ, ◌+◌, ◌≤◌, ◌<◌}
use lib.ListN.{length, get_or}
use Rattle.chain.specs.Tests.{◌<?◌}
use Rattle.chain.specs.Verdict.{Verdict, fine, refused, refuse_if}
use Rattle.chain.specs.Chain.{limit_rule, outputs_rule}
use Rattle.chain.proofs.Rules.{refuse_if_fine, not_lt, lt_yes, lt_no, refuse_yes, refuse_no}
use Rattle.chain.proofs.InOrder.{each_fine, fine_each, left, judge_start_lem, judge_on, judge_bad, judge_end_lem}

module _ (number most i : ℕ) (l : List ℕ) where
  pub numbers_low : limit_rule number most i l ≡ fine → (k : ℕ) → k < length l → get_or l k 0 ≤ most
  numbers_low ok k h = not_lt most (get_or l k 0) (refuse_if_fine _ number (i + k) (each_fine _ 0 i l ok k h))

  pub low_numbers : ((k : ℕ) → k < length l → get_or l k 0 ≤ most) → limit_rule number most i l ≡ fine
  low_numbers low = fine_each _ 0 i l (λ k h. sym (refuse_no _ number (i + k) (lt_no most (get_or l k 0) (low k h))))

-- outputs are numbers of values
pub outputs_low : (top i : ℕ) (l : List ℕ) → outputs_rule top i l ≡ fine → (k : ℕ) → k < length l → get_or l k 0 ≤ top
outputs_low = numbers_low 12

pub low_outputs : (top i : ℕ) (l : List ℕ) → ((k : ℕ) → k < length l → get_or l k 0 ≤ top) → outputs_rule top i l ≡ fine
low_outputs = low_numbers 12

-- what is left to judge after i numbers
abbrev pub numbers_left : ℕ → ℕ → List ℕ → ℕ → Verdict
numbers_left number most = left (λ i x. refuse_if (most <? x) number i)

module _ (number most : ℕ) (l : List ℕ) where
  pub numbers_start : limit_rule number most 1 l ≡ numbers_left number most l 0
  numbers_start = judge_start_lem _ l

  -- `w` is the verdict on the whole list
  module _ (i : ℕ) (w : Verdict) where
    pub numbers_on : i < length l → get_or l i 0 ≤ most → w ≡ numbers_left number most l i → w ≡ numbers_left number most l (i + 1)
    numbers_on h low = judge_on _ 0 l i w h (refuse_no _ number (i + 1) (lt_no _ _ low))

    pub numbers_bad : i < length l → most < get_or l i 0 → w ≡ numbers_left number most l i → refused number (i + 1) ≡ w
    numbers_bad h high = judge_bad _ 0 l i w number (i + 1) h (refuse_yes _ number (i + 1) (lt_yes _ _ high))

    pub numbers_end : length l ≤ i → w ≡ numbers_left number most l i → fine ≡ w
    numbers_end = judge_end_lem _ l i w

pub ruleset limiting = (numbers_start, numbers_on, numbers_bad, numbers_end)
