-- The inputs stand before the outputs, rows and clumps' values behind them, so both products of a row are those of the first slice, and one after the
-- other they are the product of all its factors; for the steps of both kinds of rows together there is room.
use mathlib.Core.Path.{◌≡◌, sym, ap, ◌∙◌}
use mathlib.Core.List.{List, [], ◌++◌}
use Prim.Native.Nat.{ℕ, ◌+◌, ◌*◌, ◌≤◌, ◌<◌}
use native.Mathlib.Omega.{arith}
use lib.ListN.{length, get_or, set, length-append}
use lib.Seq.{slice}
use Rattle.chain.specs.Chain.{pick}
use Rattle.chain.specs.declared.Step.{Step}
use Rattle.chain.proofs.Picked.{length-pick}
use Rattle.digits.proofs.Listed.{length-list, get_d_list}
use Rattle.products.specs.Product.{Made, made, payslips}
use Rattle.products.specs.Inner.{steps_in, Emitted}
use Rattle.products.specs.declared.Progress.{Progress}
use Rattle.products.proofs.Emitted.{length-steps_in, stored_so_far, stored-length, emits_on}
use Rattle.clumps.specs.Levels.{product, products}
use Rattle.clumps.proofs.Bound.{product_low}
use Rattle.clumps.proofs.Products.{product-append}
use Rattle.rows.specs.Inner.{row_at}
use Rattle.rows.proofs.Rows.{place_above}
use Rattle.row_products.specs.Inner.{values_at, lists_from, joined, JoinAsked, RowAsked, Done}
use Rattle.row_products.specs.declared.Joint.{Joint}
use Rattle.row_products.proofs.Multiplying.{stored_behind, product_begins}
use Rattle.row_products.proofs.Reading.{row_adds, rows_few, row_asked, row_values}
use Rattle.row_products.proofs.Chaining.{Making, slip_of, slips_few, making_none, making_so_far, making_on, making_all}

module _ (p : ℕ) (old : List ℕ) (joint : Joint) (to : ℕ) (r₀ : Progress) (asked : JoinAsked p old joint to r₀) where
  abbrev slip : ℕ → List Step → Made
  slip = slip_of p (joined old joint)

  abbrev start : List Step
  start = steps_in old r₀.steps

  -- a row's factors: of its clumps, and of its overflow
  abbrev clumped : ℕ → List ℕ
  clumped j = pick (slice joint.made (joint.made + joint.k) old) (row_at old joint.clumps j)

  abbrev rest : ℕ → List ℕ
  rest j = pick (slice joint.ins (joint.ins + joint.n) old) (row_at old joint.rest j)

  factors_are : (j : ℕ) → j < joint.m → get_or (joined old joint) j [] ≡ clumped j ++ rest j
  factors_are = get_d_list joint.m (λ i. clumped i ++ rest i) []

  clumped_long : (j : ℕ) → length (clumped j) ≡ length (row_at old joint.clumps j)
  clumped_long j = length-pick (slice joint.made (joint.made + joint.k) old) (row_at old joint.clumps j)

  rest_long : (j : ℕ) → length (rest j) ≡ length (row_at old joint.rest j)
  rest_long j = length-pick (slice joint.ins (joint.ins + joint.n) old) (row_at old joint.rest j)

  far : lists_from ≤ to
  far = omega (arith, asked.values_behind, asked.values_before)

  pub join_room : to + joint.m < length old
  join_room =
      omega (
        arith,
        asked.clumps_behind,
        place_above old joint.clumps joint.m _ asked.clump_rows_lem.formed joint.m (omega arith),
        asked.clump_rows_lem.formed.inside,
      )

  pub join_none : Making to slip start 0 r₀ old old
  join_none = making_none to slip old r₀ asked.front.so_far

  module _ (j : ℕ) (less : j < joint.m) where
    row_room : 2 * (length (payslips slip start j).steps + length (clumped j) + length (rest j)) ≤ lists_from
    row_room =
        omega (
          arith,
          slips_few p (joined old joint) start (λ i. get_or old (joint.clumps + i) 0 + get_or old (joint.rest + i) 0) joint.m adds j (omega arith),
          clumps-add j less,
          rests_add j less,
          clumped_long j,
          rest_long j,
          rows_few old joint.clumps joint.m joint.k asked.clump_rows_lem (j + 1) (omega arith),
          rows_few old joint.rest joint.m joint.n asked.rest_rows (j + 1) (omega arith),
          length-steps_in old r₀ asked.front.so_far,
          asked.front.enough,
        )
      where
        clumps-add : (i : ℕ) → i < joint.m → length (row_at old joint.clumps i) + get_or old (joint.clumps + i) 0 ≡ get_or old (joint.clumps + (i + 1)) 0
        clumps-add = row_adds old joint.clumps joint.m joint.k asked.clump_rows_lem

        rests_add : (i : ℕ) → i < joint.m → length (row_at old joint.rest i) + get_or old (joint.rest + i) 0 ≡ get_or old (joint.rest + (i + 1)) 0
        rests_add = row_adds old joint.rest joint.m joint.n asked.rest_rows

        adds : (i : ℕ) → i < joint.m
            → length (get_or (joined old joint) i []) + (get_or old (joint.clumps + i) 0 + get_or old (joint.rest + i) 0)
            ≡ get_or old (joint.clumps + (i + 1)) 0 + get_or old (joint.rest + (i + 1)) 0
        adds i h =
            omega (
              arith,
              ap length (factors_are i h),
              length-append (clumped i) (rest i),
              clumped_long i,
              rest_long i,
              clumps-add i h,
              rests_add i h,
            )

    product_room : 2 * length (slip j (payslips slip start j).steps).steps ≤ lists_from
    product_room =
        omega (
          arith,
          product_low p (made (payslips slip start j).steps 0) (get_or (joined old joint) j []),
          ap length (factors_are j less),
          length-append (clumped j) (rest j),
          row_room,
        )

    module _ (r : Progress) (s : List ℕ) (state : Making to slip start j r old s) where
      -- the cells behind all outputs are as they were
      behind : (c : ℕ) → to + joint.m ≤ c → get_or s c 0 ≡ get_or old c 0
      behind c h = state.behind c (omega arith)

      same_clumps : (c : ℕ) → joint.clumps ≤ c → c < get_or old (joint.clumps + joint.m) 0 → get_or s c 0 ≡ get_or old c 0
      same_clumps c h g = behind c (omega (arith, asked.clumps_behind))

      pub clumps_asked : RowAsked p s r joint.made joint.clumps j
      clumps_asked =
          row_asked old joint.clumps joint.m joint.k asked.clump_rows_lem joint.made s state.done.size same_clumps j less p r
          (making_so_far to slip old start j r s state (omega (arith, row_room, far, join_room)))
          asked.front.columns
          (omega (arith, far, asked.clumps_behind))
          (omega (arith, far, asked.made_behind))
          asked.made_inside
          (omega (arith, row_room, clumped_long j, state.done.count))

      module _ (s' : List ℕ) (r' : Progress) (v' : ℕ)
          (e : Emitted s s' r' v' (product p (made (steps_in s r.steps) 0) (values_at s joint.made (row_at s joint.clumps j)))) where
        abbrev first : Made
        first = product p (made (steps_in s r.steps) 0) (clumped j)

        first_made : Emitted s s' r' v' first
        first_made =
            let is =
            row_values old joint.clumps joint.m joint.k asked.clump_rows_lem joint.made s state.done.size same_clumps j less (λ c h g.
            behind c (omega (arith, asked.made_behind))) in
            rw is at e

        first_few : 2 * (length first.steps + length (rest j)) ≤ lists_from
        first_few =
            omega (
              arith,
              product_low p (made (steps_in s r.steps) 0) (clumped j),
              ap length state.done.steps,
              row_room,
            )

        long : length s' ≡ length old
        long = stored-length first_made.stored (omega (arith, first_few, far, join_room, state.done.size)) ∙ state.done.size

        kept : (c : ℕ) → lists_from ≤ c → get_or s' c 0 ≡ get_or s c 0
        kept c h = stored_behind first_made.stored c (omega (arith, first_few))

        same_rest : (c : ℕ) → joint.rest ≤ c → c < get_or old (joint.rest + joint.m) 0 → get_or s' c 0 ≡ get_or old c 0
        same_rest c h g = kept c (omega (arith, far, asked.rest_behind)) ∙ behind c (omega (arith, asked.rest_behind))

        pub rest_asked : RowAsked p s' r' joint.ins joint.rest j
        rest_asked =
            row_asked old joint.rest joint.m joint.n asked.rest_rows joint.ins s' long same_rest j less p r'
            (stored_so_far first_made.stored (omega (arith, first_few, far, join_room, state.done.size)))
            asked.front.columns
            (omega (arith, far, asked.rest_behind))
            asked.values_behind
            (omega (arith, asked.values_before, join_room))
            (omega (arith, first_few, rest_long j, first_made.stored.count))

        module _ (s'' : List ℕ) (r'' : Progress) (v'' : ℕ)
            (f : Emitted s' s'' r'' v'' (product p (made (steps_in s' r'.steps) v') (values_at s' joint.ins (row_at s' joint.rest j)))) where
          both_made : Emitted s s'' r'' v'' (slip j (steps_in s r.steps))
          both_made =
              let is =
              row_values old joint.rest joint.m joint.n asked.rest_rows joint.ins s' long same_rest j less (λ c h g.
              kept c (omega (arith, asked.values_behind)) ∙ state.done.kept c (omega (arith, asked.values_behind)) (omega (arith, asked.values_before))) in
              let second = rw is at f in
              let whole =
              sym (product-append p (made (steps_in s r.steps) 0) (clumped j) (rest j))
              ∙ ap (product p (made (steps_in s r.steps) 0)) (sym (factors_are j less)) in
              rw whole at (emits_on (λ m. product p m (rest j)) first_made (product_begins p first (rest j)) second)

          pub join_on : Making to slip start (j + 1) r'' old (set s'' (to + j) v'')
          join_on = making_on to slip old start j r s state far s'' r'' v'' both_made product_room (omega (arith, join_room))

  pub join_all : (j : ℕ) (r : Progress) (s : List ℕ) → j ≤ joint.m → joint.m ≤ j → Making to slip start j r old s
      → Done to r (products p (joined old joint) start) old s
  join_all j r s h g state =
      let all : length (joined old joint) ≡ joint.m = length-list joint.m (λ i. clumped i ++ rest i) in
      making_all to slip old start j (length (joined old joint)) r s (omega arith) (omega arith) state
