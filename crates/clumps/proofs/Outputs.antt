-- Output clumping: an input comes to an output once, by a clump or by overflow, exactly if it is one of the output's inputs. So the clumps' products and
-- the overflow have together just the output's inputs; and a clump's inputs are inputs of each of its members, so its sums keep to the limit too.
use mathlib.Core.Path.{◌≡◌, refl, sym, ap, ap₂, ◌∙◌}
use mathlib.Core.List.{List, [], ◌∷◌, ◌++◌}
use Prim.Native.Nat.{ℕ, ◌+◌, ◌*◌, ◌≤◌, ◌<◌}
use native.Mathlib.Nat.{add-mul, mul_comm, mul_assoc, mul-le-mul_right}
use native.Mathlib.Omega.{arith}
use lib.ListN.{length, get_or}
use Rattle.chain.specs.Tests.{◌=?◌}
use Rattle.chain.specs.Chain.{Chain, pick}
use Rattle.chain.specs.declared.Step.{Step}
use Rattle.chain.proofs.Exponents.{makes_like}
use Rattle.digits.specs.Range.{sum_to, list_to}
use Rattle.digits.proofs.Range.{sum_same, sum-add, sum-mul, sum_le, sum_swap}
use Rattle.digits.proofs.Listed.{length-list, get_d_list}
use Rattle.products.specs.Product.{made}
use Rattle.products.proofs.Sound.{Begins, begins_on, Sound}
use Rattle.products.proofs.Product.{Result, result_empty, result_like}
use Rattle.clumps.specs.Lists.{which, has, having, equal, holds}
use Rattle.clumps.specs.Clumps.{Level, clumps_of, overflow_of, clumps_in}
use Rattle.clumps.specs.Levels.{product, products, output_cut, output_rest, next_outputs, factors}
use Rattle.clumps.proofs.Totals.{bit, total, total_same, total_at, total_which}
use Rattle.clumps.proofs.Often.{often, among_often, sign_once}
use Rattle.clumps.proofs.Cut.{Proper, member_below, cut_total, clumps_some, clump_part}
use Rattle.clumps.proofs.Chosen.{often_chosen, chosen_proper, chosen_below, total_often, total_sign}
use Rattle.clumps.proofs.Together.{CutLists, list_holds, owner, clumps_gather}
use Rattle.clumps.proofs.Products.{Given, given_on, sum_of, product-append, product_makes, products_make, Posed, Solved}

mul-sum : (w n : ℕ) (f : ℕ → ℕ) → w * sum_to n f ≡ sum_to n (λ i. w * f i)
mul-sum w n f = mul_comm w (sum_to n f) ∙ sym (sum-mul n f w) ∙ sum_same n _ _ (λ i h. mul_comm (f i) w)

-- the outputs of an input
users_proper : (outs : List (List ℕ)) (i : ℕ) → Proper (length outs) (having outs i)
users_proper outs i = chosen_proper (λ j. has i (get_or outs j [])) (length outs)

module _ (n : ℕ) (outs : List (List ℕ)) (proper : (j : ℕ) → j < length outs → Proper n (get_or outs j [])) where
  pub has_often : (i j : ℕ) → j < length outs → bit (has i (get_or outs j [])) ≡ often ◌=?◌ i (get_or outs j [])
  has_often i j h = among_often ◌=?◌ i (get_or outs j []) ∙ sign_once (often ◌=?◌ i (get_or outs j [])) ((proper j h).once i)

  users_often : (i j : ℕ) → j < length outs → often ◌=?◌ j (having outs i) ≡ often ◌=?◌ i (get_or outs j [])
  users_often i j h = often_chosen (λ j. has i (get_or outs j [])) (length outs) j h ∙ has_often i j h

module _ (l : Level) (n : ℕ) (outs : List (List ℕ)) where
  abbrev cut : List (List (List ℕ))
  cut = output_cut l n outs

  abbrev rest : List (List ℕ)
  rest = output_rest l n outs

  abbrev D : List (List ℕ)
  D = clumps_in cut

  abbrev next : List (List ℕ)
  next = next_outputs l n outs

  rest_count : length rest ≡ n
  unfolding output_rest
  rest_count = length-list n _

  rest_at : (i : ℕ) → i < n → get_or rest i [] ≡ overflow_of l (length outs) (having outs i)
  unfolding output_rest
  rest_at i h = get_d_list n _ [] i h

  -- the next level's outputs
  pub next_count : length next ≡ length D
  unfolding next_outputs
  next_count = length-list (length D) _

  next_at : (x : ℕ) → x < length D → get_or next x [] ≡ which (λ i. holds (get_or D x []) (get_or cut i [])) n
  unfolding next_outputs
  next_at x h = get_d_list (length D) _ [] x h

  pub next_total : (f : ℕ → ℕ) (x : ℕ) → x < length D → total f (get_or next x []) ≡ sum_to n (λ i. bit (holds (get_or D x []) (get_or cut i [])) * f i)
  next_total f x h = ap (total f) (next_at x h) ∙ total_which f (λ i. holds (get_or D x []) (get_or cut i [])) n

  pub next_proper : (x : ℕ) → x < length next → Proper n (get_or next x [])
  next_proper x h = rw (next_at x (omega (arith, next_count))) (chosen_proper (λ i. holds (get_or D x []) (get_or cut i [])) n)

  module _ (somea : 1 ≤ l.a) (someb : 1 ≤ l.b) where
    pub output_cuts : CutLists l (length outs) n (having outs) cut
    unfolding output_cut
    output_cuts = record { some_a = somea; some_b = someb; proper = λ i h. users_proper outs i; is = refl }

    module _ (proper : (j : ℕ) → j < length outs → Proper n (get_or outs j [])) where
      -- how often input i comes to output j
      comes : (i j : ℕ) → i < n → j < length outs
          → total (λ u. bit (has j u) * bit (holds u (get_or cut i []))) D + bit (has j (get_or rest i [])) ≡ often ◌=?◌ i (get_or outs j [])
      comes i j hi hj =
          let C : List (List ℕ) = clumps_of l (length outs) (having outs i) in
          let R : List ℕ = overflow_of l (length outs) (having outs i) in
          let once = (users_proper outs i).once j in
          let all = cut_total l (length outs) (having outs i) somea (users_proper outs i).inside (λ x. bit (j =? x)) in
          let clumps : total (λ u. bit (has j u) * bit (holds u (get_or cut i []))) D ≡ total (often ◌=?◌ j) C =
          total_same _ _ D (λ u. mul_comm (bit (has j u)) (bit (holds u (get_or cut i []))))
          ∙ clumps_gather output_cuts (λ u. bit (has j u)) i hi
          ∙ total_same _ _ C (λ u. among_often ◌=?◌ j u)
          ∙ total_sign (often ◌=?◌ j) C (omega arith) in
          let over : bit (has j (get_or rest i [])) ≡ often ◌=?◌ j R =
          ap (λ (s : List ℕ). bit (has j s)) (rest_at i hi) ∙ among_often ◌=?◌ j R ∙ sign_once (often ◌=?◌ j R) (omega arith) in
          omega (arith, users_often n outs proper i j hj)

      next_low : (f : ℕ → ℕ) (limit : ℕ) → ((j : ℕ) → j < length outs → total f (get_or outs j []) ≤ limit)
          → (x : ℕ) → x < length next → total f (get_or next x []) ≤ limit
      next_low f limit low x h = by_members (get_or D x []) refl
        where
          here : x < length D
          here = omega (arith, next_count)

          -- an input that has the clump
          i₀ : ℕ
          i₀ = (owner output_cuts x here).place

          has_clump : 0 < often equal (get_or D x []) (clumps_of l (length outs) (having outs i₀))
          has_clump = (owner output_cuts x here).some

          by_members : (u : List ℕ) → get_or D x [] ≡ u → total f (get_or next x []) ≤ limit
          by_members [] e =
              let none = clumps_some l (length outs) (having outs i₀) someb in
              absurd (omega (arith, has_clump, ap (λ (v : List ℕ). often equal v (clumps_of l (length outs) (having outs i₀))) e, none))
          by_members (j ∷ u) e =
              let mine : 0 < often equal (j ∷ u) (clumps_of l (length outs) (having outs i₀)) = rw e at has_clump in
              let inside : j < length outs = member_below (length outs) (having outs i₀) (users_proper outs i₀).inside j (omega (arith, mine, part i₀)) in
              let each : sum_to n (λ i. bit (holds (get_or D x []) (get_or cut i [])) * f i) ≤ sum_to n (λ i. often ◌=?◌ i (get_or outs j []) * f i) =
              sum_le n _ _ (λ i g. mul-le-mul_right (f i) (one i g inside)) in
              omega (arith, next_total f x here, total_often f n (get_or outs j []) (proper j inside).inside, low j inside)
            where
              part : (i : ℕ) → often equal (j ∷ u) (clumps_of l (length outs) (having outs i)) ≤ often ◌=?◌ j (having outs i)
              part i = clump_part l (length outs) (having outs i) somea (users_proper outs i).inside j u

              one : (i : ℕ) → i < n → j < length outs → bit (holds (get_or D x []) (get_or cut i [])) ≤ often ◌=?◌ i (get_or outs j [])
              one i g inside = rw e (omega (arith, list_holds output_cuts i g (j ∷ u), part i, users_often n outs proper i j inside))

      -- an output's clumps and overflow together, where v has the clumps' sums of f
      factors-sum : (f v : ℕ → ℕ) → ((x : ℕ) → x < length D → v x ≡ total f (get_or next x [])) → (j : ℕ) → j < length outs
          → total v (having D j) + total f (having rest j) ≡ total f (get_or outs j [])
      factors-sum f v is j h =
          ap₂ ◌+◌ clumps over
          ∙ sym (sum-add n _ _)
          ∙ sum_same n _ _ (λ i g. sym (add-mul (by_clumps_lem i) (bit (has j (get_or rest i []))) (f i)) ∙ ap (λ (k : ℕ). k * f i) (comes i j g h))
          ∙ total_often f n (get_or outs j []) (proper j h).inside
        where
          K : ℕ
          K = length D

          by_clumps_lem : ℕ → ℕ
          by_clumps_lem i = total (λ u. bit (has j u) * bit (holds u (get_or cut i []))) D

          spread : (x : ℕ) → x < K
              → bit (has j (get_or D x [])) * v x ≡ sum_to n (λ i. bit (has j (get_or D x [])) * bit (holds (get_or D x []) (get_or cut i [])) * f i)
          spread x g =
              ap (λ (k : ℕ). bit (has j (get_or D x [])) * k) (is x g ∙ next_total f x g)
              ∙ mul-sum (bit (has j (get_or D x []))) n (λ i. bit (holds (get_or D x []) (get_or cut i [])) * f i)
              ∙ sum_same n _ _ (λ i g. sym (mul_assoc (bit (has j (get_or D x []))) (bit (holds (get_or D x []) (get_or cut i []))) (f i)))

          clumps : total v (having D j) ≡ sum_to n (λ i. by_clumps_lem i * f i)
          clumps =
              total_which v (λ x. has j (get_or D x [])) K
              ∙ sum_same K _ _ spread
              ∙ sum_swap K n (λ x i. bit (has j (get_or D x [])) * bit (holds (get_or D x []) (get_or cut i [])) * f i)
              ∙ sum_same n _ _ (λ i g. sum-mul K (λ x. bit (has j (get_or D x [])) * bit (holds (get_or D x []) (get_or cut i []))) (f i)
              ∙ ap (λ (k : ℕ). k * f i) (sym (total_at (λ u. bit (has j u) * bit (holds u (get_or cut i []))) D [])))

          over : total f (having rest j) ≡ sum_to n (λ i. bit (has j (get_or rest i [])) * f i)
          over = total_which f (λ i. has j (get_or rest i [])) (length rest) ∙ ap (λ (k : ℕ). sum_to k (λ i. bit (has j (get_or rest i [])) * f i)) rest_count

-- a level of output clumping
module _ (l : Level) (somea : 1 ≤ l.a) (someb : 1 ≤ l.b) (p limit : ℕ) (before : List Step) (ins : List ℕ) (y : ℕ → List ℕ) (outs : List (List ℕ))
    (posed : Posed p limit before ins y outs) where
  abbrev n : ℕ
  n = length ins

  abbrev clumps : List (List ℕ)
  clumps = clumps_in (output_cut l n outs)

  abbrev over : List (List ℕ)
  over = output_rest l n outs

  abbrev asked : List (List ℕ)
  asked = next_outputs l n outs

  pub outputs_posed : Posed p limit before ins y asked
  outputs_posed =
      record {
        sound = posed.sound;
        given = posed.given;
        sizes = posed.sizes;
        proper = next_proper l n outs;
        low = λ x d h g. next_low l n outs somea someb posed.proper (λ i. get_or (y d) i 0) limit (λ j k. posed.low j d k g) x h;
      }

  module _ (inner : Chain) (done : Solved p limit before y asked inner) where
    abbrev vals : ℕ → List ℕ
    vals d = list_to (length clumps) (λ x. sum_of y (get_or asked x []) d)

    made_size : length inner.outputs ≡ length clumps
    made_size = done.outputs ∙ next_count l n outs

    vals_at : (x d : ℕ) → x < length clumps → get_or (vals d) x 0 ≡ sum_of y (get_or asked x []) d
    vals_at x d h = get_d_list (length clumps) _ 0 x h

    clumps_given : Given p inner.steps inner.outputs vals
    clumps_given =
        record {
          makes = λ x h. makes_like p _ _ _ _ (λ d g. sym (vals_at x d (omega (arith, made_size)))) (done.makes x (omega (arith, done.outputs)));
        }

    abbrev product_of : List (List ℕ)
    product_of = factors l n outs ins inner.outputs

    factors_count : length product_of ≡ length outs
    unfolding factors
    factors_count = length-list (length outs) _

    factors_at : (j : ℕ) → j < length outs → get_or product_of j [] ≡ pick inner.outputs (having clumps j) ++ pick ins (having over j)
    unfolding factors
    factors_at j h = get_d_list (length outs) _ [] j h

    one : (j : ℕ) → j < length outs → (now : List Step) → Sound p limit now → Begins inner.steps now
        → Result p limit now (product p (made now 0) (get_or product_of j [])) (λ d. sum_of y (get_or outs j []) d)
    one j h now s b =
        let sums : (d : ℕ) → sum_of vals (having clumps j) d + sum_of y (having over j) d ≡ sum_of y (get_or outs j []) d =
        λ d. factors-sum l n outs somea someb posed.proper (λ i. get_or (y d) i 0) (λ x. get_or (vals d) x 0) (λ x k. vals_at x d k) j h in
        let first =
        product_makes {before = now} inner.outputs vals (having clumps j)
        (λ x k. rw made_size (chosen_below (λ x. has j (get_or clumps x [])) (length clumps) x k))
        (made now 0) (λ d. 0) (given_on b clumps_given) (result_empty s) (λ d k. omega (arith, sums d, posed.low j d h k)) in
        let second =
        product_makes ins y (having over j)
        (λ i k. rw (sym (rest_count l n outs)) (chosen_below (λ i. has j (get_or over i [])) (length over) i k))
        (product p (made now 0) (pick inner.outputs (having clumps j))) (λ d. 0 + sum_of vals (having clumps j) d)
        (given_on (begins_on done.begins (begins_on b first.begins)) posed.given) first (λ d k. omega (arith, sums d, posed.low j d h k)) in
        rw (factors_at j h, product-append p (made now 0) (pick inner.outputs (having clumps j)) (pick ins (having over j)))
        (result_like (λ d k. omega (arith, sums d)) second)

    pub outputs_solved : Solved p limit before y outs (products p product_of inner.steps)
    outputs_solved =
        let made_all = products_make p limit product_of inner.steps _ (length outs) factors_count done.sound one in
        record { sound = made_all.sound; begins = begins_on done.begins made_all.begins; outputs = made_all.outputs; makes = made_all.makes }
