-- A column's exponents at the outputs are laid into its cells of the table; those of the columns before stay.
use mathlib.Core.Path.{◌≡◌, sym, ap, ◌∙◌}
use mathlib.Core.List.{List, ◌++◌, append-nil}
use Prim.Native.Nat.{ℕ, ◌+◌, ◌-◌, ◌*◌, ◌≤◌, ◌<◌}
use native.Mathlib.Decide.{dec_lt}
use native.Mathlib.Omega.{arith}
use lib.ListN.{length, get_or, take, drop, length-drop, get_or-append, drop_of_length-le}
use lib.Seq.{length-take-le, take_all, get_or-take, get_or-append-add, drop-drop}
use Rattle.chain.specs.Verdict.{fine}
use Rattle.chain.specs.Written.{over, laid}
use Rattle.chain.specs.Chain.{most_columns, most_payslips, outputs_rule, exponents, exponent_of}
use Rattle.chain.specs.declared.Step.{Step}
use Rattle.chain.proofs.Exponents.{length-exponents}
use Rattle.chain.proofs.Limits.{outputs_low}
use Rattle.chain.proofs.Written.{over_get_d}
use Rattle.verify.specs.Verify.{earlier}
use Rattle.verify.specs.Inner.{SummedUp}
use Rattle.verify.proofs.Places.{earlier_none}
use Rattle.verify.proofs.Columns.{summed_all}
use Rattle.chain.specs.Chain.{pick}
use Rattle.chain.proofs.Picked.{length-pick, get_d_pick}
use Rattle.listing.specs.Inner.{table_size, amount_in, TableHolds}

-- a list over the front of all cells from place a on
pub over_part : (a : ℕ) (t l ys : List ℕ) → ys ≡ over t (take (length l - a) (drop a l))
    → take a l ++ (ys ++ drop (length l - a) (drop a l)) ≡ laid a t l
unfolding over laid
over_part a t l ys e =
    let n : length (drop a l) ≡ length l - a = length-drop a l in
    let part : take (length l - a) (drop a l) ≡ drop a l = take_all (length l - a) (drop a l) (omega arith) in
    let long : length (drop a l) ≤ length l - a = omega arith in
    let none = drop_of_length-le (drop a l) long in
    ap (λ (u : List ℕ). take a l ++ u)
    (ap (λ (u : List ℕ). ys ++ u) none
    ∙ append-nil ys
    ∙ e
    ∙ ap (λ (u : List ℕ). t ++ drop (length t) u) part
    ∙ ap (λ (u : List ℕ). t ++ u) (drop-drop (length t) a l))

-- cells of what was laid, and before it
module _ (n : ℕ) (t l : List ℕ) (h : n ≤ length l) (i : ℕ) where
  laid_at : i < length t → get_or (laid n t l) (n + i) 0 ≡ get_or t i 0
  unfolding laid
  laid_at g =
      let e : n + i ≡ length (take n l) + i = omega (arith, length-take-le n l h) in
      rw e (get_or-append-add (take n l) _ i 0 ∙ get_or-append t _ 0 i g)

  laid_before : i < n → get_or (laid n t l) i 0 ≡ get_or l i 0
  unfolding laid
  laid_before g = get_or-append (take n l) _ 0 i (omega (arith, length-take-le n l h)) ∙ get_or-take n l i 0 g

-- the exponents at the outputs
abbrev pub at_outputs : ℕ → List Step → List ℕ → ℕ → ℕ → ℕ
at_outputs p steps outputs i c = exponent_of p steps c (get_or outputs i 0)

-- column c more: `vs` is the scratch after its sums, `table` and `table'` the table before it and after
pub filled_on : (p c : ℕ) (steps : List Step) (outputs : List ℕ) (large place large' : ℕ) (d vs table table' : List ℕ)
    → outputs_rule (p + length steps) 1 outputs ≡ fine → length outputs ≤ most_payslips → c < most_columns → length table ≡ table_size
    → large' ≡ earlier large place → SummedUp p (exponents p c) steps d vs place → (large ≡ 0 → TableHolds table (length outputs) c (at_outputs p steps outputs))
    → table' ≡ laid (most_payslips * c) (pick vs outputs) table → large' ≡ 0 → TableHolds table' (length outputs) (c + 1) (at_outputs p steps outputs)
filled_on p c steps outputs large place large' d vs table table' ok few low size e summed before gathered z =
    record { each = λ i j hi hj. ap (λ (t : List ℕ). amount_in t i j) gathered ∙ by_column i j hi hj (dec_lt j c) }
  where
    by_column : (i j : ℕ) → i < length outputs → j < c + 1 → Dec (j < c)
        → amount_in (laid (most_payslips * c) (pick vs outputs) table) i j ≡ at_outputs p steps outputs i j
    by_column i j hi hj (yes sooner) =
        laid_before (most_payslips * c) (pick vs outputs) table (omega arith) (most_payslips * j + i) (omega arith)
        ∙ (before (earlier_none large place (sym e ∙ z)).0).each i j hi sooner
    by_column i j hi hj (no this) =
        let same : j ≡ c = omega arith in
        rw same
        (laid_at (most_payslips * c) (pick vs outputs) table (omega arith) i (omega (arith, length-pick vs outputs))
        ∙ get_d_pick vs outputs i hi
        ∙ ap (λ (t : List ℕ). get_or t (get_or outputs i 0) 0) (summed_all p c steps d vs place summed (earlier_none large place (sym e ∙ z)).1)
        ∙ over_get_d (exponents p c steps) d (get_or outputs i 0) (omega (arith, length-exponents p c steps, outputs_low (p + length steps) 1 outputs ok i hi)))
