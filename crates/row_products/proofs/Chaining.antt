-- Products are made one after the other, each after the steps of those before it, and its value is stored behind theirs: one turn for any payslips.
use mathlib.Core.Path.{◌≡◌, refl, sym, ap, ◌∙◌}
use mathlib.Core.List.{List, [], ◌∷◌, ◌++◌}
use Prim.Native.Nat.{ℕ, zero, suc, ◌+◌, ◌*◌, ◌≤◌, ◌<◌}
use native.Mathlib.Numerals.{add-one}
use native.Mathlib.Decide.{dec_lt}
use native.Mathlib.Omega.{arith}
use lib.ListN.{length, get_or, set, length-append, length-set, get_or-append}
use lib.Seq.{slice, slice_empty, get_or_at, get_or-set_same, get_or-set_other, take-set-le}
use Rattle.chain.specs.Chain.{Chain, pairs, squarings_of}
use Rattle.chain.specs.declared.Step.{Step}
use Rattle.products.specs.Product.{Made, made, payslips}
use Rattle.products.specs.Inner.{steps_in, SoFar, Emitted}
use Rattle.products.specs.declared.Progress.{Progress}
use Rattle.products.proofs.Emitted.{length-steps_in, stored_is, stored-length}
use Rattle.clumps.specs.Levels.{product}
use Rattle.clumps.proofs.Bound.{product_low, payslips-length}
use Rattle.rows.proofs.Lists.{slice_cell, slice_is}
use Rattle.row_products.specs.Inner.{lists_from, Done}
use Rattle.row_products.proofs.Multiplying.{stored_behind}

-- the state of the loop after j products: their chain is made, and the cells behind its outputs are as they were too
pub record Making (to : ℕ) (slip : ℕ → List Step → Made) (start : List Step) (j : ℕ) (r : Progress) (old new : List ℕ) : Type 0 where
  pub done : Done to r (payslips slip start j) old new
  pub behind : (c : ℕ) → to + j ≤ c → get_or new c 0 ≡ get_or old c 0

-- list j's product after the steps before it
abbrev pub slip_of : ℕ → List (List ℕ) → ℕ → List Step → Made
slip_of p lists j before = product p (made before 0) (get_or lists j [])

-- the steps so far, if a sum grows by the members of each list
pub slips_few : (p : ℕ) (lists : List (List ℕ)) (start : List Step) (sum : ℕ → ℕ) (m : ℕ)
    → ((i : ℕ) → i < m → length (get_or lists i []) + sum i ≡ sum (i + 1))
    → (j : ℕ) → j ≤ m → length (payslips (slip_of p lists) start j).steps + sum 0 ≤ length start + sum j
slips_few p lists start sum m adds zero h = omega arith
slips_few p lists start sum m adds (suc j) h =
    omega (
      arith,
      slips_few p lists start sum m adds j (omega arith),
      product_low p (made (payslips (slip_of p lists) start j).steps 0) (get_or lists j []),
      adds j (omega arith),
      ap sum (add-one j),
    )

module _ (to : ℕ) (slip : ℕ → List Step → Made) (old : List ℕ) where
  pub making_none : (r : Progress) → SoFar old r → Making to slip (steps_in old r.steps) 0 r old old
  making_none r so_far =
      let e : to + 0 ≡ to = omega arith in
      record {
        done =
            record {
              size = refl;
              steps = refl;
              count = sym (length-steps_in old r so_far);
              squarings = so_far.counted;
              kept = λ c h g. refl;
              outputs = rw e (slice_empty to old);
            };
        behind = λ c h. refl;
      }

  module _ (start : List Step) (j : ℕ) (r : Progress) (s : List ℕ) (state : Making to slip start j r old s) where
    abbrev before : Chain
    before = payslips slip start j

    pub making_so_far : 2 * length before.steps ≤ length old → SoFar s r
    making_so_far h =
        record {
          fits = omega (arith, state.done.count, state.done.size);
          counted = state.done.squarings ∙ ap squarings_of (sym state.done.steps);
        }

    module _ (far : lists_from ≤ to) (s' : List ℕ) (r' : Progress) (v : ℕ) (e : Emitted s s' r' v (slip j (steps_in s r.steps)))
        (few : 2 * length (slip j before.steps).steps ≤ lists_from) (there : to + j < length old) where
      made_is : Emitted s s' r' v (slip j before.steps)
      made_is = rw state.done.steps at e

      pub making_long : length s' ≡ length old
      making_long = stored-length made_is.stored (omega (arith, state.done.size)) ∙ state.done.size

      other : (c : ℕ) → lists_from ≤ c → (c ≡ to + j → ⊥) → get_or (set s' (to + j) v) c 0 ≡ get_or s c 0
      other c h ne = get_or-set_other s' (to + j) c v 0 ne ∙ stored_behind made_is.stored c (omega arith)

      abbrev value : ℕ
      value = (slip j before.steps).value

      abbrev all : List ℕ
      all = before.outputs ++ value ∷ []

      outputs_on : slice to (to + length all) (set s' (to + j) v) ≡ all
      outputs_on =
          slice_is to (to + length all) (set s' (to + j) v) all (omega (arith, long, length-set s' (to + j) v, making_long)) (omega arith)
          (λ i h. cell i (dec_lt i j) h)
        where
          long : length all ≡ j + 1
          long = length-append before.outputs (value ∷ []) ∙ omega (arith, payslips-length slip start j)

          cell : (i : ℕ) → Dec (i < j) → i < length all → get_or (set s' (to + j) v) (to + i) 0 ≡ get_or all i 0
          cell i (yes lt) h =
              let n = payslips-length slip start j in
              other (to + i) (omega arith) (λ q. omega arith)
              ∙ sym (slice_cell to (to + length before.outputs) s i (omega arith))
              ∙ ap (λ (l : List ℕ). get_or l i 0) state.done.outputs
              ∙ sym (get_or-append before.outputs (value ∷ []) 0 i (omega arith))
          cell i (no ge) h =
              let last : i ≡ j = omega (arith, long) in
              rw last
              (get_or-set_same s' (to + j) v 0 (omega (arith, making_long))
              ∙ made_is.value
              ∙ sym (get_or_at before.outputs value [] 0 j (payslips-length slip start j)))

      pub making_on : Making to slip start (j + 1) r' old (set s' (to + j) v)
      making_on =
          rw (add-one j)
          (record {
            done =
                record {
                  size = length-set s' (to + j) v ∙ making_long;
                  steps =
                      ap pairs (take-set-le (2 * r'.steps) s' (to + j) v (omega (arith, made_is.stored.count)))
                      ∙ stored_is made_is.stored;
                  count = made_is.stored.count;
                  squarings = made_is.stored.squarings;
                  kept = λ c h g. other c h (λ q. omega arith) ∙ state.done.kept c h g;
                  outputs = outputs_on;
                };
            behind = λ c h. other c (omega arith) (λ q. omega arith) ∙ state.behind c (omega arith);
          })

  pub making_all : (start : List Step) (j m : ℕ) (r : Progress) (s : List ℕ) → j ≤ m → m ≤ j → Making to slip start j r old s
      → Done to r (payslips slip start m) old s
  making_all start j m r s h g state = let last : m ≡ j = omega arith in rw last state.done
