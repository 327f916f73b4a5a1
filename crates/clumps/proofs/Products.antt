-- A product of inputs makes the sum of their exponents, so a problem whose sums keep to the limit is solved by making its outputs' products one after
-- the other.
use mathlib.Core.Path.{◌≡◌, refl, sym}
use mathlib.Core.List.{List, [], ◌∷◌, ◌++◌, map}
use Prim.Native.Nat.{ℕ, ◌+◌, ◌≤◌, ◌<◌}
use native.Mathlib.Omega.{arith}
use lib.ListN.{length, get_or, length-map, get_or-map}
use Rattle.chain.specs.Tests.{◌=?◌}
use Rattle.chain.specs.Chain.{Chain, pick}
use Rattle.chain.specs.declared.Step.{Step}
use Rattle.chain.proofs.Exponents.{Makes}
use Rattle.products.specs.Product.{Made, made, times}
use Rattle.products.proofs.Sound.{Begins, makes_on, Sound}
use Rattle.products.proofs.Product.{times_begins, Result, result_empty, result_like, result_times}
use Rattle.methods.proofs.Payslips.{Pays, payslips_make}
use Rattle.clumps.specs.Levels.{product, products, separately}
use Rattle.clumps.proofs.Totals.{total}
use Rattle.clumps.proofs.Often.{often, number_tells, often_first}
use Rattle.clumps.proofs.Cut.{Proper, member_below}

-- the inputs are values of the steps; in column d, input i has the exponent at place i of y d
pub record Given (p : ℕ) (steps : List Step) (ins : List ℕ) (y : ℕ → List ℕ) : Type 0 where
  pub makes : (i : ℕ) → i < length ins → Makes p steps (get_or ins i 0) (λ d. get_or (y d) i 0)

pub given_on : {p : ℕ} {a b : List Step} {ins : List ℕ} {y : ℕ → List ℕ} → Begins a b → Given p a ins y → Given p b ins y
given_on f g = record { makes = λ i h. makes_on f (g.makes i h) }

-- the exponents of the inputs at these places together
abbrev pub sum_of : (ℕ → List ℕ) → List ℕ → ℕ → ℕ
sum_of y s d = total (λ i. get_or (y d) i 0) s

pub product-append : (p : ℕ) (m : Made) (a b : List ℕ) → product p m (a ++ b) ≡ product p (product p m a) b
product-append p m [] b = refl
product-append p m (v ∷ a) b = product-append p (times p m v) a b

module _ {p limit : ℕ} {before : List Step} (ins : List ℕ) (y : ℕ → List ℕ) where
  pub product_makes : (s : List ℕ) → ((i : ℕ) → 0 < often ◌=?◌ i s → i < length ins) → (m : Made) (x : ℕ → ℕ)
      → Given p m.steps ins y → Result p limit before m x → ((d : ℕ) → d < p → x d + sum_of y s d ≤ limit)
      → Result p limit before (product p m (pick ins s)) (λ d. x d + sum_of y s d)
  product_makes [] low m x g r fit = result_like (λ d h. omega arith) r
  product_makes (i ∷ s) low m x g r fit =
      let v : ℕ = get_or ins i 0 in
      let step = result_times r (g.makes i (low i (often_first ◌=?◌ number_tells i s))) (λ d h. omega (arith, fit d h)) in
      result_like (λ d h. omega arith)
      (product_makes s (λ k h. low k (omega arith)) (times p m v) (λ d. x d + get_or (y d) i 0)
      (given_on (times_begins p m v) g) step (λ d h. omega (arith, fit d h)))

-- products one after the other, each right after any sound steps
pub products_make : (p limit : ℕ) (lists : List (List ℕ)) (start : List Step) (x : ℕ → ℕ → ℕ) (n : ℕ) → length lists ≡ n → Sound p limit start
    → ((j : ℕ) → j < n → (before : List Step) → Sound p limit before → Begins start before
    → Result p limit before (product p (made before 0) (get_or lists j [])) (x j))
    → Pays p limit start x n (products p lists start)
products_make p limit lists start x n e s each = sized e (payslips_make p limit _ start x (length lists) s (λ j h. each j (omega (arith, e))))
  where
    sized : {k : ℕ} → k ≡ n → {c : Chain} → Pays p limit start x k c → Pays p limit start x n c
    sized e r = rw (sym e) r

-- What is asked: outputs as sets of inputs, whose sums keep to the limit.
pub record Posed (p limit : ℕ) (before : List Step) (ins : List ℕ) (y : ℕ → List ℕ) (outs : List (List ℕ)) : Type 0 where
  pub sound : Sound p limit before
  pub given : Given p before ins y
  pub sizes : (d : ℕ) → length (y d) ≡ length ins
  pub proper : (j : ℕ) → j < length outs → Proper (length ins) (get_or outs j [])
  pub low : (j d : ℕ) → j < length outs → d < p → sum_of y (get_or outs j []) d ≤ limit

-- What solves it: a chain whose outputs make the outputs' sums.
abbrev pub Solved : ℕ → ℕ → List Step → (ℕ → List ℕ) → List (List ℕ) → Chain → Type 0
Solved p limit before y outs chain = Pays p limit before (λ j d. sum_of y (get_or outs j []) d) (length outs) chain

-- each output made separately
pub picked_solved : (p limit : ℕ) (start : List Step) (ins : List ℕ) (y : ℕ → List ℕ) (outs : List (List ℕ)) → Posed p limit start ins y outs
    → Solved p limit start y outs (separately p ins outs start)
picked_solved p limit start ins y outs posed =
    products_make p limit (map (pick ins) outs) start _ (length outs) (length-map outs (pick ins)) posed.sound one
  where
    one : (j : ℕ) → j < length outs → (before : List Step) → Sound p limit before → Begins start before
        → Result p limit before (product p (made before 0) (get_or (map (pick ins) outs) j [])) (λ d. sum_of y (get_or outs j []) d)
    one j h before s b =
        let out : List ℕ = get_or outs j [] in
        let is : get_or (map (pick ins) outs) j [] ≡ pick ins out = get_or-map (pick ins) outs j [] in
        rw is
        (result_like (λ d g. omega arith)
        (product_makes ins y out (member_below (length ins) out (posed.proper j h).inside) (made before 0) (λ d. 0)
        (given_on b posed.given) (result_empty s) (λ d g. omega (arith, posed.low j d h g))))
