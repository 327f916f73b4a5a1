-- A list cut into clumps and overflow: sums over the two are the sum over the list. As each clump has b members and an index stands once in the list,
-- no clump is empty and none comes twice.
use mathlib.Core.Path.{◌≡◌, refl, sym, ap, ap₂, ◌∙◌}
use mathlib.Core.Bool.{Bool, true, false, cond}
use mathlib.Core.List.{List, [], ◌∷◌}
use Prim.Native.Nat.{ℕ, zero, suc, ◌+◌, ◌*◌, ◌/◌, ◌≤◌, ◌<◌}
use native.Mathlib.Nat.{mul-one, one-mul, zero-mul, suc-mul, mul-le-mul_left, mul-le-mul_right, div-add-mod'}
use native.Mathlib.Decide.{dec_lt}
use native.Mathlib.Omega.{arith}
use lib.ListN.{length, take, drop, take-append-drop}
use lib.Seq.{drop-drop}
use Rattle.chain.specs.Tests.{◌=?◌}
use Rattle.chain.proofs.Rules.{eq_yes, eq_no}
use Rattle.digits.specs.Range.{sum_to}
use Rattle.digits.proofs.Range.{sum_same, sum-zero, sum-add, sum_single}
use Rattle.groups.specs.Groups.{group, group_count}
use Rattle.groups.proofs.Groups.{length-group, reached_all}
use Rattle.clumps.specs.Lists.{equal}
use Rattle.clumps.specs.Clumps.{Level, in_part, taken, remainder, clumps_of, overflow_of}
use Rattle.clumps.proofs.Totals.{bit, total, total_append, total_zero, total_joined, total_list}
use Rattle.clumps.proofs.Often.{often, number_tells, members_tell, often_first, often_part}

-- indices below n, none twice
pub record Proper (n : ℕ) (s : List ℕ) : Type 0 where
  pub once : (x : ℕ) → often ◌=?◌ x s ≤ 1
  pub inside : (x : ℕ) → n ≤ x → often ◌=?◌ x s ≡ 0

-- a member is below n
pub member_below : (n : ℕ) (s : List ℕ) → ((x : ℕ) → n ≤ x → often ◌=?◌ x s ≡ 0) → (x : ℕ) → 0 < often ◌=?◌ x s → x < n
member_below n s inside x h = by_place (dec_lt x n)
  where
    by_place : Dec (x < n) → x < n
    by_place (yes lt) = lt
    by_place (no ge) = absurd (omega (arith, inside x (omega arith)))

-- an index below n lies in one of the parts
pub part_below : (a n x : ℕ) → 1 ≤ a → x < n → x / a < group_count a n
part_below a n x some h = by_place (dec_lt (x / a) (group_count a n))
  where
    by_place : Dec (x / a < group_count a n) → x / a < group_count a n
    by_place (yes lt) = lt
    by_place (no ge) =
        let far : group_count a n * a ≤ x / a * a = mul-le-mul_right a (omega arith) in
        absurd (omega (arith, reached_all a n some, div-add-mod' x a))

-- the parts together are the list
parts_total : (f : ℕ → ℕ) (a P : ℕ) (s : List ℕ) → ((x : ℕ) → 0 < often ◌=?◌ x s → x / a < P)
    → sum_to P (λ k. total f (in_part a k s)) ≡ total f s
parts_total f a P [] low = sum-zero P _ (λ k h. refl)
parts_total f a P (x ∷ s) low =
    sum_same P _ _ (λ k h. one k (x / a =? k))
    ∙ sum-add P (λ k. bit (x / a =? k) * f x) (λ k. total f (in_part a k s))
    ∙ ap₂ ◌+◌ own (parts_total f a P s (λ y h. low y (omega arith)))
  where
    one : (k : ℕ) (t : Bool) → total f (cond t (x ∷ in_part a k s) (in_part a k s)) ≡ bit t * f x + total f (in_part a k s)
    one k true = omega (arith, one-mul (f x))
    one k false = omega (arith, zero-mul (f x))

    own : sum_to P (λ k. bit (x / a =? k) * f x) ≡ f x
    own =
        sum_single P _ (x / a) (low x (often_first ◌=?◌ number_tells x s))
        (λ k h ne. ap (λ (t : Bool). bit t * f x) (eq_no (x / a) k (λ e. ne (sym e))) ∙ zero-mul (f x))
        ∙ ap (λ (t : Bool). bit t * f x) (eq_yes (x / a) (x / a) refl)
        ∙ one-mul (f x)

-- the first m clumps of b, and what follows them
first_total : (f : ℕ → ℕ) (b m : ℕ) (s : List ℕ) → sum_to m (λ i. total f (group b i s)) + total f (drop (m * b) s) ≡ total f s
first_total f b zero s = ap (λ (k : ℕ). 0 + total f (drop k s)) (zero-mul b) ∙ omega arith
first_total f b (suc m) s =
    let next : drop (suc m * b) s ≡ drop b (drop (m * b) s) = ap (λ (k : ℕ). drop k s) (suc-mul m b) ∙ sym (drop-drop b (m * b) s) in
    let both : total f (group b m s) + total f (drop b (drop (m * b) s)) ≡ total f (drop (m * b) s) =
    sym (total_append f (take b (drop (m * b) s)) (drop b (drop (m * b) s))) ∙ ap (total f) (take-append-drop b (drop (m * b) s)) in
    omega (arith, ap (total f) next, both, first_total f b m s)

taken_total : (f : ℕ → ℕ) (b : ℕ) (here : List ℕ) → total (total f) (taken b here) + total f (remainder b here) ≡ total f here
taken_total f b here =
    let m : ℕ = length here / b in
    ap (λ (k : ℕ). k + total f (remainder b here)) (total_list (total f) m (λ i. group b i here)) ∙ first_total f b m here

-- each has b members
taken_full : (b m : ℕ) (here : List ℕ) → m < length here / b → length (group b m here) ≡ b
taken_full b m here h =
    let most : suc m * b ≤ length here / b * b = mul-le-mul_right b h in
    omega (arith, length-group b m here, div-add-mod' (length here) b, suc-mul m b)

module _ (l : Level) (n : ℕ) (s : List ℕ) where
  abbrev parts : ℕ
  parts = group_count l.a n

  abbrev here : ℕ → List ℕ
  here k = in_part l.a k s

  -- the clumps and the overflow together are the list
  pub cut_total : 1 ≤ l.a → ((x : ℕ) → n ≤ x → often ◌=?◌ x s ≡ 0) → (f : ℕ → ℕ)
      → total (total f) (clumps_of l n s) + total f (overflow_of l n s) ≡ total f s
  unfolding clumps_of overflow_of
  cut_total some inside f =
      ap₂ ◌+◌ (total_joined (total f) parts (λ k. taken l.b (here k))) (total_joined f parts (λ k. remainder l.b (here k)))
      ∙ sym (sum-add parts _ _)
      ∙ sum_same parts _ _ (λ k h. taken_total f l.b (here k))
      ∙ parts_total f l.a parts s (λ x h. part_below l.a n x some (member_below n s inside x h))

  -- what is the same of all lists of b members is the same of the clumps
  pub clumps_same : (f g : List ℕ → ℕ) → ((u : List ℕ) → length u ≡ l.b → f u ≡ g u) → total f (clumps_of l n s) ≡ total g (clumps_of l n s)
  unfolding clumps_of
  clumps_same f g e =
      total_joined f parts (λ k. taken l.b (here k))
      ∙ sum_same parts _ _ (λ k h. part k)
      ∙ sym (total_joined g parts (λ k. taken l.b (here k)))
    where
      part : (k : ℕ) → total f (taken l.b (here k)) ≡ total g (taken l.b (here k))
      part k =
          let m : ℕ = length (here k) / l.b in
          total_list f m (λ i. group l.b i (here k))
          ∙ sum_same m _ _ (λ i h. e (group l.b i (here k)) (taken_full l.b i (here k) h))
          ∙ sym (total_list g m (λ i. group l.b i (here k)))

  -- no clump is empty
  pub clumps_some : 1 ≤ l.b → often equal [] (clumps_of l n s) ≡ 0
  clumps_some some =
      clumps_same (λ u. bit (equal [] u)) (λ u. 0) not_empty ∙ total_zero (λ (u : List ℕ). 0) (clumps_of l n s) (λ u. refl)
    where
      not_empty : (u : List ℕ) → length u ≡ l.b → bit (equal [] u) ≡ 0
      not_empty [] e = absurd (omega arith)
      not_empty (y ∷ u) e = refl

  -- a clump with j is there no more often than j is in the list
  pub clump_part : 1 ≤ l.a → ((x : ℕ) → n ≤ x → often ◌=?◌ x s ≡ 0) → (j : ℕ) (u : List ℕ) → often equal (j ∷ u) (clumps_of l n s) ≤ often ◌=?◌ j s
  clump_part some inside j u =
      let k : ℕ = often equal (j ∷ u) (clumps_of l n s) in
      let times = often_part equal members_tell (often ◌=?◌ j) (j ∷ u) (clumps_of l n s) in
      let more = mul-le-mul_left k (often_first ◌=?◌ number_tells j u) in
      omega (arith, times, more, cut_total some inside (λ y. bit (j =? y)), mul-one k)

  -- no clump comes twice
  pub clumps_once : 1 ≤ l.a → 1 ≤ l.b → Proper n s → (u : List ℕ) → often equal u (clumps_of l n s) ≤ 1
  clumps_once somea someb proper [] = omega (arith, clumps_some someb)
  clumps_once somea someb proper (j ∷ u) = omega (arith, clump_part somea proper.inside j u, proper.once j)
