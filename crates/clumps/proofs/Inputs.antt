-- Input clumping: the clumps stand before the plain inputs, and over these an output asks for its clumps and its overflow, which together have the
-- exponents of its own inputs. A clump is part of some output, so its sums keep to the limit.
use mathlib.Core.Path.{◌≡◌, refl, sym, ap, ap₂, ◌∙◌}
use mathlib.Core.List.{List, [], ◌++◌, map}
use Prim.Native.Nat.{ℕ, ◌+◌, ◌-◌, ◌*◌, ◌≤◌, ◌<◌}
use native.Mathlib.Decide.{dec_lt, ℕ_discrete}
use native.Mathlib.Omega.{arith}
use lib.ListN.{length, get_or, length-append, get_or-append}
use lib.Seq.{get_or-append-add}
use Rattle.chain.specs.Tests.{◌=?◌}
use Rattle.chain.specs.Chain.{Chain}
use Rattle.chain.specs.declared.Step.{Step}
use Rattle.chain.proofs.Exponents.{Makes, makes_like}
use Rattle.chain.proofs.Rules.{eq_yes, eq_no}
use Rattle.digits.specs.Range.{list_to}
use Rattle.digits.proofs.Range.{sum_same}
use Rattle.digits.proofs.Listed.{length-list, get_d_list}
use Rattle.products.proofs.Sound.{begins_on, makes_on}
use Rattle.clumps.specs.Lists.{which, equal, holds}
use Rattle.clumps.specs.Clumps.{Level, clumps_of, overflow_of, clumps_in}
use Rattle.clumps.specs.Levels.{separately, input_cut, next_inputs}
use Rattle.clumps.proofs.Totals.{bit, total, total_append, total_same, total_zero, total_map, total_at, total_which}
use Rattle.clumps.proofs.Often.{often, members_tell, often_le}
use Rattle.clumps.proofs.Cut.{Proper, cut_total}
use Rattle.clumps.proofs.Chosen.{chosen_proper}
use Rattle.clumps.proofs.Together.{CutLists, owner, clumps_gather}
use Rattle.clumps.proofs.Products.{Given, sum_of, Posed, Solved, picked_solved}

-- numbers raised by K
module _ (K : ℕ) (s : List ℕ) where
  raised_before : (x : ℕ) → x < K → often ◌=?◌ x (map (λ i. K + i) s) ≡ 0
  raised_before x h = total_map _ (λ i. K + i) s ∙ total_zero _ s (λ i. ap bit (eq_no x (K + i) (λ e. omega arith)))

  raised_behind : (x : ℕ) → K ≤ x → often ◌=?◌ x (map (λ i. K + i) s) ≡ often ◌=?◌ (x - K) s
  raised_behind x h = total_map _ (λ i. K + i) s ∙ total_same _ _ s (λ i. same i (ℕ_discrete (x - K) i))
    where
      same : (i : ℕ) → Dec (x - K ≡ i) → bit (x =? K + i) ≡ bit (x - K =? i)
      same i (yes e) = rw (eq_yes x (K + i) (omega arith), eq_yes (x - K) i e)
      same i (no ne) = rw (eq_no x (K + i) (λ e. ne (omega arith)), eq_no (x - K) i ne)

module _ (l : Level) (n : ℕ) (outs : List (List ℕ)) where
  abbrev R : ℕ → List ℕ
  R j = overflow_of l n (get_or outs j [])

  abbrev cut : List (List (List ℕ))
  cut = input_cut l n outs

  abbrev D : List (List ℕ)
  D = clumps_in cut

  abbrev K : ℕ
  K = length D

  -- the outputs over the next level's inputs
  abbrev pub by_clumps : ℕ → List ℕ
  by_clumps j = which (λ x. holds (get_or D x []) (get_or cut j [])) K

  pub next_inputs_count : length (next_inputs l n outs) ≡ length outs
  unfolding next_inputs
  next_inputs_count = length-list (length outs) _

  pub next_inputs_at : (j : ℕ) → j < length outs → get_or (next_inputs l n outs) j [] ≡ by_clumps j ++ map (λ i. K + i) (R j)
  unfolding next_inputs
  next_inputs_at j h = get_d_list (length outs) _ [] j h

  module _ (somea : 1 ≤ l.a) (someb : 1 ≤ l.b) (proper : (j : ℕ) → j < length outs → Proper n (get_or outs j [])) where
    pub input_cuts : CutLists l n (length outs) (λ j. get_or outs j []) cut
    unfolding input_cut
    input_cuts = record { some_a = somea; some_b = someb; proper = proper; is = refl }

    -- a clump has no more than some output
    clump_within : (f : ℕ → ℕ) (x : ℕ) (h : x < K) → total f (get_or D x []) ≤ total f (get_or outs (owner input_cuts x h).place [])
    clump_within f x h =
        let o = owner input_cuts x h in
        let out : List ℕ = get_or outs o.place [] in
        let part = often_le equal members_tell (total f) (get_or D x []) (clumps_of l n out) o.some in
        omega (arith, part, cut_total l n out somea (proper o.place o.below).inside f)

    clumps_proper : (x : ℕ) → x < K → Proper n (get_or D x [])
    clumps_proper x h =
        let o = owner input_cuts x h in
        let own = proper o.place o.below in
        record {
          once = λ z. omega (arith, clump_within (λ i. bit (z =? i)) x h, own.once z);
          inside = λ z g. omega (arith, clump_within (λ i. bit (z =? i)) x h, own.inside z g);
        }

    clumps_low : (f : ℕ → ℕ) (limit : ℕ) → ((j : ℕ) → j < length outs → total f (get_or outs j []) ≤ limit) → (x : ℕ) → x < K → total f (get_or D x []) ≤ limit
    clumps_low f limit low x h = let o = owner input_cuts x h in omega (arith, clump_within f x h, low o.place o.below)

    pub next_inputs_proper : (j : ℕ) → j < length (next_inputs l n outs) → Proper (K + n) (get_or (next_inputs l n outs) j [])
    next_inputs_proper j g = rw (next_inputs_at j h) (record { once = λ z. once z (dec_lt z K); inside = inside })
      where
        h : j < length outs
        h = omega (arith, next_inputs_count)

        chosen : Proper K (by_clumps j)
        chosen = chosen_proper (λ x. holds (get_or D x []) (get_or cut j [])) K

        both : (z : ℕ) → often ◌=?◌ z (by_clumps j ++ map (λ i. K + i) (R j)) ≡ often ◌=?◌ z (by_clumps j) + often ◌=?◌ z (map (λ i. K + i) (R j))
        both z = total_append _ (by_clumps j) _

        rest_part : (z : ℕ) → often ◌=?◌ z (R j) ≤ often ◌=?◌ z (get_or outs j [])
        rest_part z = omega (arith, cut_total l n (get_or outs j []) somea (proper j h).inside (λ i. bit (z =? i)))

        once : (z : ℕ) → Dec (z < K) → often ◌=?◌ z (by_clumps j ++ map (λ i. K + i) (R j)) ≤ 1
        once z (yes lt) = omega (arith, both z, raised_before K (R j) z lt, chosen.once z)
        once z (no ge) =
            omega (arith, both z, raised_behind K (R j) z (omega arith), chosen.inside z (omega arith), rest_part (z - K), (proper j h).once (z - K))

        inside : (z : ℕ) → K + n ≤ z → often ◌=?◌ z (by_clumps j ++ map (λ i. K + i) (R j)) ≡ 0
        inside z g =
            let none = (proper j h).inside (z - K) (omega arith) in
            omega (arith, both z, raised_behind K (R j) z (omega arith), chosen.inside z (omega arith), rest_part (z - K), none)

    -- an output's clumps and overflow together, where v has the clumps' sums of f and behind them f
    next_inputs-sum : (f v : ℕ → ℕ) → ((x : ℕ) → x < K → v x ≡ total f (get_or D x [])) → ((i : ℕ) → v (K + i) ≡ f i) → (j : ℕ) → j < length outs
        → total v (get_or (next_inputs l n outs) j []) ≡ total f (get_or outs j [])
    next_inputs-sum f v is behind j h =
        ap (total v) (next_inputs_at j h)
        ∙ total_append v (by_clumps j) _
        ∙ ap₂ ◌+◌ clumps (total_map v (λ i. K + i) (R j) ∙ total_same _ _ (R j) behind)
        ∙ cut_total l n (get_or outs j []) somea (proper j h).inside f
      where
        clumps : total v (by_clumps j) ≡ total (total f) (clumps_of l n (get_or outs j []))
        clumps =
            total_which v (λ x. holds (get_or D x []) (get_or cut j [])) K
            ∙ sum_same K _ _ (λ x g. ap (λ (w : ℕ). bit (holds (get_or D x []) (get_or cut j [])) * w) (is x g))
            ∙ sym (total_at (λ u. bit (holds u (get_or cut j [])) * total f u) D [])
            ∙ clumps_gather input_cuts (total f) j h

-- a level of input clumping
module _ (l : Level) (somea : 1 ≤ l.a) (someb : 1 ≤ l.b) (p limit : ℕ) (before : List Step) (ins : List ℕ) (y : ℕ → List ℕ) (outs : List (List ℕ))
    (posed : Posed p limit before ins y outs) where
  abbrev n : ℕ
  n = length ins

  abbrev clumps : List (List ℕ)
  clumps = clumps_in (input_cut l n outs)

  abbrev next : List (List ℕ)
  next = next_inputs l n outs

  -- the clumps are made
  clumps_posed : Posed p limit before ins y clumps
  clumps_posed =
      record {
        sound = posed.sound;
        given = posed.given;
        sizes = posed.sizes;
        proper = clumps_proper l n outs somea someb posed.proper;
        low = λ x d h g. clumps_low l n outs somea someb posed.proper (λ i. get_or (y d) i 0) limit (λ j k. posed.low j d k g) x h;
      }

  abbrev done : Chain
  done = separately p ins clumps before

  made : Solved p limit before y clumps done
  made = picked_solved p limit before ins y clumps clumps_posed

  -- the exponents of the inputs of the next level
  abbrev first : ℕ → List ℕ
  first d = list_to (length clumps) (λ x. sum_of y (get_or clumps x []) d)

  abbrev next_exponents : ℕ → List ℕ
  next_exponents d = first d ++ y d

  first_long : (d : ℕ) → length (first d) ≡ length clumps
  first_long d = length-list (length clumps) _

  first_at : (x d : ℕ) → x < length clumps → get_or (next_exponents d) x 0 ≡ sum_of y (get_or clumps x []) d
  first_at x d h = get_or-append (first d) (y d) 0 x (omega (arith, first_long d)) ∙ get_d_list (length clumps) _ 0 x h

  then_at : (i d : ℕ) → get_or (next_exponents d) (length clumps + i) 0 ≡ get_or (y d) i 0
  then_at i d = ap (λ (k : ℕ). get_or (next_exponents d) (k + i) 0) (sym (first_long d)) ∙ get_or-append-add (first d) (y d) i 0

  next_given : Given p done.steps (done.outputs ++ ins) next_exponents
  next_given = record { makes = λ i h. by_place i h (dec_lt i (length clumps)) }
    where
      by_place : (i : ℕ) → i < length (done.outputs ++ ins) → Dec (i < length clumps)
          → Makes p done.steps (get_or (done.outputs ++ ins) i 0) (λ d. get_or (next_exponents d) i 0)
      by_place i h (yes lt) =
          rw (get_or-append done.outputs ins 0 i (omega (arith, made.outputs)))
          (makes_like p _ _ _ _ (λ d g. sym (first_at i d lt)) (made.makes i lt))
      by_place i h (no ge) =
          let j : ℕ = i - length clumps in
          let here : j < length ins = omega (arith, length-append done.outputs ins, made.outputs) in
          let mine : i ≡ length done.outputs + j = omega (arith, made.outputs) in
          let same : i ≡ length clumps + j = omega arith in
          let value : get_or (done.outputs ++ ins) i 0 ≡ get_or ins j 0 =
          ap (λ (k : ℕ). get_or (done.outputs ++ ins) k 0) mine ∙ get_or-append-add done.outputs ins j 0 in
          rw value
          (makes_like p _ _ _ _ (λ d g. sym (ap (λ (k : ℕ). get_or (next_exponents d) k 0) same ∙ then_at j d))
          (makes_on made.begins (posed.given.makes j here)))

  next_is : (j d : ℕ) → j < length outs → sum_of next_exponents (get_or next j []) d ≡ sum_of y (get_or outs j []) d
  next_is j d h =
      next_inputs-sum l n outs somea someb posed.proper (λ i. get_or (y d) i 0) (λ i. get_or (next_exponents d) i 0)
      (λ x g. first_at x d g) (λ i. then_at i d) j h

  size : length next ≡ length outs
  size = next_inputs_count l n outs

  long : length (done.outputs ++ ins) ≡ length clumps + n
  long = length-append done.outputs ins ∙ omega (arith, made.outputs)

  pub inputs_posed : Posed p limit done.steps (done.outputs ++ ins) next_exponents next
  inputs_posed =
      record {
        sound = made.sound;
        given = next_given;
        sizes = λ d. length-append (first d) (y d) ∙ omega (arith, first_long d, posed.sizes d, long);
        proper = λ j h. rw long (next_inputs_proper l n outs somea someb posed.proper j h);
        low = λ j d h g. rw (next_is j d (omega (arith, size))) (posed.low j d (omega (arith, size)) g);
      }

  pub inputs_solved : (chain : Chain) → Solved p limit done.steps next_exponents next chain → Solved p limit before y outs chain
  inputs_solved chain r =
      record {
        sound = r.sound;
        begins = begins_on made.begins r.begins;
        outputs = r.outputs ∙ size;
        makes = λ j h. makes_like p _ _ _ _ (λ d g. next_is j d h) (r.makes j (omega (arith, size)));
      }
