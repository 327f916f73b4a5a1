-- The incidences of a problem, the members of its outputs together, are b for each clump that is cut and the overflow. Entering adds no clump; so the
-- clumps and their members are few, and the next problem has no more incidences, after output clumping at most one for b.
use mathlib.Core.Path.{◌≡◌, refl, sym, ap, ap₂, ◌∙◌}
use mathlib.Core.Bool.{Bool, true, false, cond}
use mathlib.Core.List.{List, [], ◌∷◌, map}
use Prim.Native.Nat.{ℕ, ◌+◌, ◌*◌, ◌≤◌, ◌<◌}
use native.Mathlib.Nat.{mul-one, one-mul, mul_comm, mul-le-mul_right}
use native.Mathlib.Omega.{arith}
use lib.ListN.{length, get_or, length-append, length-map}
use Rattle.chain.specs.Tests.{◌=?◌}
use Rattle.digits.specs.Range.{sum_to}
use Rattle.digits.proofs.Range.{sum_same, sum-add, sum_swap, sum-mul}
use Rattle.clumps.specs.Lists.{joined, has, having, holds, insert, enter, entered}
use Rattle.clumps.specs.Clumps.{Level, clumps_of, overflow_of, clumps_in}
use Rattle.clumps.specs.Levels.{output_cut, next_outputs, input_cut, next_inputs}
use Rattle.clumps.proofs.Totals.{bit, total, total_same, total_mul, total_at, length_total}
use Rattle.clumps.proofs.Often.{often, total_insert}
use Rattle.clumps.proofs.Cut.{Proper, cut_total, clumps_same}
use Rattle.clumps.proofs.Chosen.{chosen-length, total_often}
use Rattle.clumps.proofs.Together.{CutLists, cuts_total, clumps_gather}
use Rattle.clumps.proofs.Outputs.{has_often, output_cuts, next_count, next_total}
use Rattle.clumps.proofs.Inputs.{input_cuts, by_clumps, next_inputs_count, next_inputs_at}

-- the members of some lists together
abbrev pub size_of : List (List ℕ) → ℕ
size_of lists = total length lists

pub size_at : (lists : List (List ℕ)) → size_of lists ≡ sum_to (length lists) (λ j. length (get_or lists j []))
size_at lists = total_at length lists []

-- clumps have b members each
clumps_b : (l : Level) (n : ℕ) (s : List ℕ) → size_of (clumps_of l n s) ≡ l.b * length (clumps_of l n s)
clumps_b l n s =
    clumps_same l n s length (λ u. l.b * 1) (λ u e. e ∙ sym (mul-one l.b))
    ∙ total_mul (λ u. 1) l.b (clumps_of l n s)
    ∙ ap (λ (k : ℕ). l.b * k) (sym (length_total (clumps_of l n s)))

-- a list is its clumps and its overflow
cut-length : (l : Level) (n : ℕ) (s : List ℕ) → 1 ≤ l.a → ((x : ℕ) → n ≤ x → often ◌=?◌ x s ≡ 0)
    → l.b * length (clumps_of l n s) + length (overflow_of l n s) ≡ length s
cut-length l n s some inside =
    let whole = cut_total l n s some inside (λ x. 1) in
    let clumps = total_same (total (λ x. 1)) length (clumps_of l n s) (λ u. sym (length_total u)) in
    omega (arith, length_total s, length_total (overflow_of l n s), clumps_b l n s, whole, clumps)

-- entering adds nothing
entered_low : (f : List ℕ → ℕ) (l d : List (List ℕ)) → total f (entered d l) ≤ total f d + total f l
entered_low f [] d = omega arith
entered_low f (u ∷ l) d = by_test (holds u d) (entered_low f l (enter u d)) refl
  where
    by_test : (t : Bool) → total f (entered (enter u d) l) ≤ total f (enter u d) + total f l → enter u d ≡ cond t d (insert u d)
        → total f (entered (enter u d) l) ≤ total f d + (f u + total f l)
    by_test true h e = omega (arith, ap (total f) e)
    by_test false h e = omega (arith, ap (total f) e, total_insert f u d)

-- lists that are cut
module _ {l : Level} {n m : ℕ} {s : ℕ → List ℕ} {cut : List (List (List ℕ))} (k : CutLists l n m s cut) where
  abbrev C : ℕ → List (List ℕ)
  C i = clumps_of l n (s i)

  abbrev R : ℕ → List ℕ
  R i = overflow_of l n (s i)

  cuts_size : l.b * sum_to m (λ i. length (C i)) + sum_to m (λ i. length (R i)) ≡ sum_to m (λ i. length (s i))
  cuts_size =
      ap (λ (c : ℕ). c + sum_to m (λ i. length (R i))) (mul_comm l.b _ ∙ sym (sum-mul m (λ i. length (C i)) l.b))
      ∙ sym (sum-add m _ _)
      ∙ sum_same m _ _ (λ i h. ap (λ (c : ℕ). c + length (R i)) (mul_comm (length (C i)) l.b) ∙ cut-length l n (s i) k.some_a (k.proper i h).inside)

  entered_total : (f : List ℕ → ℕ) → total f (clumps_in cut) ≤ sum_to m (λ i. total f (C i))
  entered_total f = omega (arith, entered_low f (joined (length cut) (λ i. get_or cut i [])) [], cuts_total k f)

  entered_few : length (clumps_in cut) ≤ sum_to m (λ i. length (C i))
  entered_few = omega (arith, length_total (clumps_in cut), entered_total (λ u. 1), sum_same m _ _ (λ i h. length_total (C i)))

  pub entered_members : size_of (clumps_in cut) ≤ l.b * sum_to m (λ i. length (C i))
  entered_members =
      let all : sum_to m (λ i. size_of (C i)) ≡ l.b * sum_to m (λ i. length (C i)) =
      sum_same m _ _ (λ i h. clumps_b l n (s i) ∙ mul_comm l.b (length (C i))) ∙ sum-mul m (λ i. length (C i)) l.b ∙ mul_comm _ l.b in
      omega (arith, entered_total length, all)

  -- as many of the clumps entered are a list's as it has clumps
  gathered_length : (i : ℕ) → i < m → sum_to (length (clumps_in cut)) (λ x. bit (holds (get_or (clumps_in cut) x []) (get_or cut i []))) ≡ length (C i)
  gathered_length i h =
      sym (total_at (λ u. bit (holds u (get_or cut i []))) (clumps_in cut) [])
      ∙ total_same _ _ (clumps_in cut) (λ u. sym (mul-one (bit (holds u (get_or cut i [])))))
      ∙ clumps_gather k (λ u. 1) i h
      ∙ sym (length_total (C i))

module _ (n : ℕ) (outs : List (List ℕ)) (proper : (j : ℕ) → j < length outs → Proper n (get_or outs j [])) where
  -- the outputs of all inputs are the inputs of all outputs
  pub users_size : sum_to n (λ i. length (having outs i)) ≡ size_of outs
  users_size =
      sum_same n _ _ (λ i h. chosen-length (λ j. has i (get_or outs j [])) (length outs))
      ∙ sum_swap n (length outs) (λ i j. bit (has i (get_or outs j [])))
      ∙ sum_same (length outs) _ _ (λ j h. one j h)
      ∙ sym (size_at outs)
    where
      one : (j : ℕ) → j < length outs → sum_to n (λ i. bit (has i (get_or outs j []))) ≡ length (get_or outs j [])
      one j h =
          sum_same n _ _ (λ i g. has_often n outs proper i j h ∙ sym (mul-one (often ◌=?◌ i (get_or outs j []))))
          ∙ total_often (λ x. 1) n (get_or outs j []) (proper j h).inside
          ∙ sym (length_total (get_or outs j []))

module _ (l : Level) (n : ℕ) (outs : List (List ℕ)) (somea : 1 ≤ l.a) (someb : 1 ≤ l.b) where
  -- output clumping
  abbrev of_input : ℕ → List (List ℕ)
  of_input i = clumps_of l (length outs) (having outs i)

  abbrev K : ℕ
  K = length (clumps_in (output_cut l n outs))

  pub clumps_few : K ≤ sum_to n (λ i. length (of_input i))
  clumps_few = entered_few (output_cuts l n outs somea someb)

  -- the next problem's incidences are the clumps of all inputs
  pub next_incidences : size_of (next_outputs l n outs) ≡ sum_to n (λ i. length (of_input i))
  next_incidences =
      size_at (next_outputs l n outs)
      ∙ ap (λ (k : ℕ). sum_to k (λ x. length (get_or (next_outputs l n outs) x []))) (next_count l n outs)
      ∙ sum_same K _ _ (λ x h. one x h)
      ∙ sum_swap K n (λ x i. bit (holds (get_or (clumps_in (output_cut l n outs)) x []) (get_or (output_cut l n outs) i [])))
      ∙ sum_same n _ _ (λ i h. gathered_length (output_cuts l n outs somea someb) i h)
    where
      one : (x : ℕ) → x < K
          → length (get_or (next_outputs l n outs) x []) ≡ sum_to n (λ i. bit (holds (get_or (clumps_in (output_cut l n outs)) x []) (get_or (output_cut l n outs) i [])))
      one x h = length_total (get_or (next_outputs l n outs) x []) ∙ next_total l n outs (λ i. 1) x h ∙ sum_same n _ _ (λ i g. mul-one _)

  module _ (proper : (j : ℕ) → j < length outs → Proper n (get_or outs j [])) where
    pub outputs_cut : l.b * sum_to n (λ i. length (of_input i)) + sum_to n (λ i. length (overflow_of l (length outs) (having outs i))) ≡ size_of outs
    outputs_cut = cuts_size (output_cuts l n outs somea someb) ∙ users_size n outs proper

    pub clumps_size : size_of (clumps_in (output_cut l n outs)) ≤ size_of outs
    clumps_size = omega (arith, entered_members (output_cuts l n outs somea someb), outputs_cut)

    -- at most one for b of this one's
    pub next_halved : l.b * size_of (next_outputs l n outs) ≤ size_of outs
    next_halved = omega (arith, outputs_cut, ap (λ (m : ℕ). l.b * m) next_incidences)

    -- input clumping
    abbrev of_output : ℕ → List (List ℕ)
    of_output j = clumps_of l n (get_or outs j [])

    abbrev rest_of : ℕ → List ℕ
    rest_of j = overflow_of l n (get_or outs j [])

    pub inputs_cut : l.b * sum_to (length outs) (λ j. length (of_output j)) + sum_to (length outs) (λ j. length (rest_of j)) ≡ size_of outs
    inputs_cut = cuts_size (input_cuts l n outs somea someb proper) ∙ sym (size_at outs)

    pub input_clumps_few : length (clumps_in (input_cut l n outs)) ≤ sum_to (length outs) (λ j. length (of_output j))
    input_clumps_few = entered_few (input_cuts l n outs somea someb proper)

    pub input_clumps_size : size_of (clumps_in (input_cut l n outs)) ≤ size_of outs
    input_clumps_size = omega (arith, entered_members (input_cuts l n outs somea someb proper), inputs_cut)

    next_inputs_size : size_of (next_inputs l n outs) ≡ sum_to (length outs) (λ j. length (of_output j)) + sum_to (length outs) (λ j. length (rest_of j))
    next_inputs_size =
        size_at (next_inputs l n outs)
        ∙ ap (λ (k : ℕ). sum_to k (λ j. length (get_or (next_inputs l n outs) j []))) (next_inputs_count l n outs)
        ∙ sum_same (length outs) _ _ (λ j h. one j h)
        ∙ sum-add (length outs) _ _
      where
        D : List (List ℕ)
        D = clumps_in (input_cut l n outs)

        mine : ℕ → List ℕ
        mine j = by_clumps l n outs j

        one : (j : ℕ) → j < length outs → length (get_or (next_inputs l n outs) j []) ≡ length (of_output j) + length (rest_of j)
        one j h =
            ap length (next_inputs_at l n outs j h)
            ∙ length-append (mine j) (map (λ i. length D + i) (rest_of j))
            ∙ ap₂ ◌+◌
            (chosen-length (λ x. holds (get_or D x []) (get_or (input_cut l n outs) j [])) (length D) ∙ gathered_length (input_cuts l n outs somea someb proper) j h)
            (length-map (rest_of j) (λ i. length D + i))

    -- no more incidences than before
    pub next_inputs_low : size_of (next_inputs l n outs) ≤ size_of outs
    next_inputs_low =
        let m : ℕ = sum_to (length outs) (λ j. length (of_output j)) in
        let more : 1 * m ≤ l.b * m = mul-le-mul_right m someb in
        omega (arith, next_inputs_size, inputs_cut, one-mul m, more)
