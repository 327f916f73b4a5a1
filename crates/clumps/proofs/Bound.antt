-- How many steps the levels can make, by the problem's incidences alone: a product has at most a step for each factor, a level's factors are no more than
-- its incidences, and an output level of b at least 2 leaves half of them.
use mathlib.Core.Path.{◌≡◌, refl, ap, ap₂, ◌∙◌}
use mathlib.Core.List.{List, [], ◌∷◌, ◌++◌, map}
use Prim.Native.Nat.{ℕ, zero, suc, ◌+◌, ◌*◌, ◌/◌, ◌≤◌, ◌<◌}
use native.Mathlib.Nat.{mul-le-mul, mul-le-mul_right, div-add-mod', mod-lt}
use native.Mathlib.Decide.{dec_lt}
use native.Mathlib.Omega.{arith}
use lib.ListN.{length, get_or, length-append, length-map}
use Rattle.chain.specs.Tests.{◌=?◌}
use Rattle.chain.specs.Chain.{Chain, pick}
use Rattle.chain.specs.declared.Step.{Step}
use Rattle.chain.proofs.Picked.{length-pick}
use Rattle.chain.proofs.Rules.{eq_no}
use Rattle.digits.specs.Range.{sum_to, sign}
use Rattle.digits.proofs.Range.{sum_same, sum-zero, sum-add, sum_le, sum_swap, sum_single, sign_low, sign_le}
use Rattle.products.specs.Product.{Made, made, times, payslips}
use Rattle.products.proofs.Product.{times_cost}
use Rattle.clumps.specs.Lists.{has, having}
use Rattle.clumps.specs.Clumps.{Level, overflow_of, clumps_in}
use Rattle.clumps.specs.Levels.{product, products, separately, output_cut, output_rest, next_outputs, factors, input_cut, next_inputs}
use Rattle.clumps.specs.Levels.{clump_outputs, clump_inputs}
use Rattle.clumps.specs.Inner.{most_out, most_in}
use Rattle.clumps.proofs.Totals.{bit, bit_low, total_list}
use Rattle.clumps.proofs.Often.{often, among_often}
use Rattle.clumps.proofs.Cut.{Proper}
use Rattle.clumps.proofs.Chosen.{chosen-length}
use Rattle.clumps.proofs.Outputs.{output_cuts, next_proper}
use Rattle.clumps.proofs.Inputs.{next_inputs_proper}
use Rattle.clumps.proofs.Sizes.{size_of, size_at, entered_members, outputs_cut, next_halved, input_clumps_size, next_inputs_low}

-- b at least 2
abbrev pub Pairs : List Level → Type 0
Pairs [] = Unit {0}
Pairs (l ∷ levels) = (1 ≤ l.a) × (2 ≤ l.b) × Pairs levels

half_low : (a b : ℕ) → a ≤ b → a / 2 ≤ b / 2
half_low a b h = omega (arith, div-add-mod' a 2, div-add-mod' b 2, mod-lt a two, mod-lt b two)
  where
    two : 0 < 2
    two = omega arith

mutual
  most_out_lem : (levels : List Level) (a b : ℕ) → a ≤ b → most_out levels a ≤ most_out levels b
  most_out_lem [] a b h = h
  most_out_lem (l ∷ levels) a b h = omega (arith, most_in_lem levels (a / 2) (b / 2) (half_low a b h))

  most_in_lem : (levels : List Level) (a b : ℕ) → a ≤ b → most_in levels a ≤ most_in levels b
  most_in_lem [] a b h = h
  most_in_lem (l ∷ levels) a b h = omega (arith, most_out_lem levels a b h)

-- the numbers below n that are in a list are no more than its members
often_low : (n : ℕ) (s : List ℕ) → sum_to n (λ j. often ◌=?◌ j s) ≤ length s
often_low n [] = omega (arith, sum-zero n (λ j. 0) (λ j h. refl))
often_low n (x ∷ s) = omega (arith, sum-add n (λ j. bit (j =? x)) (λ j. often ◌=?◌ j s), one (dec_lt x n), often_low n s)
  where
    none : (j : ℕ) → (j ≡ x → ⊥) → bit (j =? x) ≡ 0
    none j ne = ap bit (eq_no j x ne)

    one : Dec (x < n) → sum_to n (λ j. bit (j =? x)) ≤ 1
    one (yes lt) = omega (arith, sum_single n (λ j. bit (j =? x)) x lt (λ j h ne. none j ne), bit_low (x =? x))
    one (no ge) = omega (arith, sum-zero n (λ j. bit (j =? x)) (λ j h. none j (λ e. omega arith)))

having_low : (n : ℕ) (lists : List (List ℕ)) → sum_to n (λ j. length (having lists j)) ≤ size_of lists
having_low n lists =
    omega (
      arith,
      sum_same n _ _ (λ j h. chosen-length (λ x. has j (get_or lists x [])) (length lists)),
      sum_swap n (length lists) (λ j x. bit (has j (get_or lists x []))),
      sum_le (length lists) (λ x. sum_to n (λ j. bit (has j (get_or lists x [])))) (λ x. length (get_or lists x [])) (λ x h. one (get_or lists x [])),
      size_at lists,
    )
  where
    one : (s : List ℕ) → sum_to n (λ j. bit (has j s)) ≤ length s
    one s =
        omega (
          arith,
          sum_le n (λ j. bit (has j s)) (λ j. often ◌=?◌ j s) (λ j h. omega (arith, among_often ◌=?◌ j s, sign_le (often ◌=?◌ j s))),
          often_low n s,
        )

-- an output level's factors are no more than the incidences
module _ (l : Level) (n : ℕ) (outs : List (List ℕ)) where
  rest_size : size_of (output_rest l n outs) ≡ sum_to n (λ i. length (overflow_of l (length outs) (having outs i)))
  unfolding output_rest
  rest_size = total_list length n _

  factors_size : (ins values : List ℕ) → size_of (factors l n outs ins values)
      ≡ sum_to (length outs) (λ j. length (having (clumps_in (output_cut l n outs)) j)) + sum_to (length outs) (λ j. length (having (output_rest l n outs) j))
  unfolding factors
  factors_size ins values =
      total_list length (length outs) _
      ∙ sum_same (length outs) _ _ (λ j h. length-append (pick values (having clumps j)) (pick ins (having rest j))
      ∙ ap₂ ◌+◌ (length-pick values (having clumps j)) (length-pick ins (having rest j)))
      ∙ sum-add (length outs) _ _
    where
      clumps : List (List ℕ)
      clumps = clumps_in (output_cut l n outs)

      rest : List (List ℕ)
      rest = output_rest l n outs

  pub factors_low : 1 ≤ l.a → 1 ≤ l.b → ((j : ℕ) → j < length outs → Proper n (get_or outs j []))
      → (ins values : List ℕ) → size_of (factors l n outs ins values) ≤ size_of outs
  factors_low somea someb proper ins values =
      omega (
        arith,
        factors_size ins values,
        having_low (length outs) (clumps_in (output_cut l n outs)),
        having_low (length outs) (output_rest l n outs),
        entered_members (output_cuts l n outs somea someb),
        rest_size,
        outputs_cut l n outs somea someb proper,
      )

-- a product has at most a step for each factor
pub product_low : (p : ℕ) (m : Made) (vs : List ℕ) → length (product p m vs).steps ≤ length m.steps + length vs
product_low p m [] = omega arith
product_low p m (v ∷ vs) =
    let one : sign m.value * sign v ≤ 1 * 1 = mul-le-mul (sign_low m.value) (sign_low v) in
    omega (arith, product_low p (times p m v) vs, (times_cost p m v).count, one)

products_low : (p : ℕ) (lists : List (List ℕ)) (before : List Step) → length (products p lists before).steps ≤ length before + size_of lists
products_low p lists before = omega (arith, low (length lists), size_at lists)
  where
    slip : ℕ → List Step → Made
    slip j done = product p (made done 0) (get_or lists j [])

    low : (n : ℕ) → length (payslips slip before n).steps ≤ length before + sum_to n (λ j. length (get_or lists j []))
    low zero = omega arith
    low (suc n) = omega (arith, low n, product_low p (made (payslips slip before n).steps 0) (get_or lists n []))

-- what is made separately
pub separate_low : (p : ℕ) (ins : List ℕ) (outs : List (List ℕ)) (before : List Step) → length (separately p ins outs before).steps ≤ length before + size_of outs
separate_low p ins outs before = omega (arith, products_low p (map (pick ins) outs) before, same outs)
  where
    same : (lists : List (List ℕ)) → size_of (map (pick ins) lists) ≡ size_of lists
    same [] = refl
    same (u ∷ lists) = ap₂ ◌+◌ (length-pick ins u) (same lists)

pub payslips-length : (slip : ℕ → List Step → Made) (start : List Step) (q : ℕ) → length (payslips slip start q).outputs ≡ q
payslips-length slip start zero = refl
payslips-length slip start (suc q) = length-append (payslips slip start q).outputs _ ∙ omega (arith, payslips-length slip start q)

-- with b at least 2, at most half
halved : (b x E : ℕ) → 2 ≤ b → b * x ≤ E → x ≤ E / 2
halved b x E h g =
    let two : 2 * x ≤ b * x = mul-le-mul_right x h in
    let some : 0 < 2 = omega arith in
    omega (arith, div-add-mod' E 2, mod-lt E some)

-- the steps of the levels
mutual
  pub steps_out : (levels : List Level) → Pairs levels → (p : ℕ) (ins : List ℕ) (outs : List (List ℕ)) (before : List Step)
      → ((j : ℕ) → j < length outs → Proper (length ins) (get_or outs j []))
      → length (clump_outputs levels p ins outs before).steps ≤ length before + most_out levels (size_of outs)
  steps_out [] s p ins outs before proper = separate_low p ins outs before
  steps_out (l ∷ levels) s p ins outs before proper =
      let someb : 1 ≤ l.b = omega (arith, s.1) in
      let n : ℕ = length ins in
      let next : List (List ℕ) = next_outputs l n outs in
      let inner : Chain = clump_inputs levels p ins next before in
      let first = steps_in_lem levels s.2 p ins next before (next_proper l n outs) in
      let few = most_in_lem levels (size_of next) (size_of outs / 2) (halved l.b (size_of next) (size_of outs) s.1 (next_halved l n outs s.0 someb proper)) in
      let last = products_low p (factors l n outs ins inner.outputs) inner.steps in
      omega (arith, first, few, last, factors_low l n outs s.0 someb proper ins inner.outputs)

  pub steps_in_lem : (levels : List Level) → Pairs levels → (p : ℕ) (ins : List ℕ) (outs : List (List ℕ)) (before : List Step)
      → ((j : ℕ) → j < length outs → Proper (length ins) (get_or outs j []))
      → length (clump_inputs levels p ins outs before).steps ≤ length before + most_in levels (size_of outs)
  steps_in_lem [] s p ins outs before proper = separate_low p ins outs before
  steps_in_lem (l ∷ levels) s p ins outs before proper =
      let someb : 1 ≤ l.b = omega (arith, s.1) in
      let n : ℕ = length ins in
      let clumps : List (List ℕ) = clumps_in (input_cut l n outs) in
      let done : Chain = separately p ins clumps before in
      let next : List (List ℕ) = next_inputs l n outs in
      let long : length (done.outputs ++ ins) ≡ length clumps + n =
      length-append done.outputs ins ∙ ap (λ (k : ℕ). k + n) (payslips-length _ before (length (map (pick ins) clumps)) ∙ length-map clumps (pick ins)) in
      let rest = steps_out levels s.2 p (done.outputs ++ ins) next done.steps (λ j h. rw long (next_inputs_proper l n outs s.0 someb proper j h)) in
      let few = most_out_lem levels (size_of next) (size_of outs) (next_inputs_low l n outs s.0 someb proper) in
      omega (arith, separate_low p ins clumps before, input_clumps_size l n outs s.0 someb proper, rest, few)
