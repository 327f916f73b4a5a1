-- Rows and values stand before the outputs, so every row's product is that of the first slice; the rows so far have no more numbers than all rows
-- together, for whose steps there is room.
use mathlib.Core.Path.{◌≡◌, sym, ap, ◌∙◌}
use mathlib.Core.List.{List, [], map}
use Prim.Native.Nat.{ℕ, ◌+◌, ◌*◌, ◌≤◌, ◌<◌}
use native.Mathlib.Omega.{arith}
use lib.ListN.{length, get_or, set, length-map, get_or-map}
use lib.Seq.{slice}
use Rattle.chain.specs.Chain.{pick}
use Rattle.chain.specs.declared.Step.{Step}
use Rattle.chain.proofs.Picked.{length-pick}
use Rattle.products.specs.Product.{Made, made, payslips}
use Rattle.products.specs.Inner.{steps_in, Emitted}
use Rattle.products.specs.declared.Progress.{Progress}
use Rattle.products.proofs.Emitted.{length-steps_in}
use Rattle.clumps.specs.Levels.{product, separately}
use Rattle.clumps.proofs.Bound.{product_low}
use Rattle.rows.specs.Inner.{row_at, rows_at}
use Rattle.rows.proofs.Rows.{row_is}
use Rattle.row_products.specs.Inner.{values_at, lists_from, SeparatelyAsked, RowAsked, Done}
use Rattle.row_products.specs.declared.Problem.{Problem}
use Rattle.row_products.proofs.Reading.{row_adds, rows_few, row_asked, row_values}
use Rattle.row_products.proofs.Chaining.{Making, slip_of, slips_few, making_none, making_so_far, making_on, making_all}

-- each output's factors
abbrev pub factors_in : List ℕ → Problem → List (List ℕ)
factors_in s problem = map (pick (slice problem.ins (problem.ins + problem.n) s)) (rows_at s problem.outs problem.m)

module _ (p : ℕ) (old : List ℕ) (problem : Problem) (to : ℕ) (r₀ : Progress) (asked : SeparatelyAsked p old problem to r₀) where
  abbrev slip : ℕ → List Step → Made
  slip = slip_of p (factors_in old problem)

  abbrev start : List Step
  start = steps_in old r₀.steps

  abbrev values : List ℕ
  values = slice problem.ins (problem.ins + problem.n) old

  factors_are : (j : ℕ) → j < problem.m → get_or (factors_in old problem) j [] ≡ pick values (row_at old problem.outs j)
  factors_are j h =
      get_or-map (pick values) (rows_at old problem.outs problem.m) j [] ∙ ap (pick values) ((row_is old problem.outs problem.m).0 j h)

  far : lists_from ≤ to
  far = omega (arith, asked.values_behind, asked.values_before)

  pub separate_none : Making to slip start 0 r₀ old old
  separate_none = making_none to slip old r₀ asked.front.so_far

  module _ (j : ℕ) (less : j < problem.m) where
    row_room : 2 * (length (payslips slip start j).steps + length (row_at old problem.outs j)) ≤ lists_from
    row_room =
        omega (
          arith,
          slips_few p (factors_in old problem) start (λ i. get_or old (problem.outs + i) 0) problem.m adds j (omega arith),
          row_adds old problem.outs problem.m problem.n asked.rows j less,
          rows_few old problem.outs problem.m problem.n asked.rows (j + 1) (omega arith),
          length-steps_in old r₀ asked.front.so_far,
          asked.front.enough,
        )
      where
        adds : (i : ℕ) → i < problem.m
            → length (get_or (factors_in old problem) i []) + get_or old (problem.outs + i) 0 ≡ get_or old (problem.outs + (i + 1)) 0
        adds i h =
            omega (
              arith,
              ap length (factors_are i h),
              length-pick values (row_at old problem.outs i),
              row_adds old problem.outs problem.m problem.n asked.rows i h,
            )

    product_room : 2 * length (slip j (payslips slip start j).steps).steps ≤ lists_from
    product_room =
        omega (
          arith,
          product_low p (made (payslips slip start j).steps 0) (get_or (factors_in old problem) j []),
          ap length (factors_are j less),
          length-pick values (row_at old problem.outs j),
          row_room,
        )

    module _ (r : Progress) (s : List ℕ) (state : Making to slip start j r old s) where
      same_rows : (c : ℕ) → problem.outs ≤ c → c < get_or old (problem.outs + problem.m) 0 → get_or s c 0 ≡ get_or old c 0
      same_rows c h g = state.done.kept c (omega (arith, asked.rows_behind)) (omega (arith, asked.rows_before))

      pub separate_asked : RowAsked p s r problem.ins problem.outs j
      separate_asked =
          row_asked old problem.outs problem.m problem.n asked.rows problem.ins s state.done.size same_rows j less p r
          (making_so_far to slip old start j r s state (omega (arith, row_room, far, asked.room)))
          asked.front.columns
          asked.rows_behind
          asked.values_behind
          (omega (arith, asked.values_before, asked.room))
          (omega (arith, row_room, state.done.count))

      module _ (s' : List ℕ) (r' : Progress) (v : ℕ)
          (e : Emitted s s' r' v (product p (made (steps_in s r.steps) 0) (values_at s problem.ins (row_at s problem.outs j)))) where
        emitted : Emitted s s' r' v (slip j (steps_in s r.steps))
        emitted =
            let is =
            row_values old problem.outs problem.m problem.n asked.rows problem.ins s state.done.size same_rows j less (λ c h g.
            state.done.kept c (omega (arith, asked.values_behind)) (omega (arith, asked.values_before)))
            ∙ sym (factors_are j less) in
            rw is at e

        pub separate_on : Making to slip start (j + 1) r' old (set s' (to + j) v)
        separate_on = making_on to slip old start j r s state far s' r' v emitted product_room (omega (arith, asked.room))

  pub separate_all : (j : ℕ) (r : Progress) (s : List ℕ) → j ≤ problem.m → problem.m ≤ j → Making to slip start j r old s
      → Done to r (separately p values (rows_at old problem.outs problem.m) start) old s
  separate_all j r s h g state =
      let all : length (factors_in old problem) ≡ problem.m =
      length-map (rows_at old problem.outs problem.m) (pick values)
      ∙ (row_is old problem.outs problem.m).1 in
      making_all to slip old start j (length (factors_in old problem)) r s (omega arith) (omega arith) state
