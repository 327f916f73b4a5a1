-- What a rising row of numbers below n is cut into rises below n too: parts of a rising list, one after the other.
use mathlib.Core.Path.{◌≡◌, sym, ap, subst, ◌∙◌}
use mathlib.Core.Bool.{Bool, true, false, cond}
use mathlib.Core.List.{List, [], ◌∷◌, map}
use Prim.Native.Nat.{ℕ, zero, suc, ◌+◌, ◌*◌, ◌/◌, ◌^◌, ◌≤◌, ◌<◌}
use native.Mathlib.Nat.{mul-le-mul_right}
use native.Mathlib.Omega.{arith}
use lib.ListN.{length, get_or, drop}
use Rattle.chain.specs.Tests.{◌=?◌}
use Rattle.groups.specs.Groups.{group, group_count}
use Rattle.clumps.specs.Lists.{joined, only, has, entered}
use Rattle.clumps.specs.Clumps.{Level, in_part, remainder, clumps_of, overflow_of}
use Rattle.clumps.proofs.Lists.{get_d_map_in}
use Rattle.clumps.proofs.Ranked.{which_item}
use Rattle.rows.specs.Inner.{Rising}
use Rattle.keys.specs.Inner.{Climbs, key_in, clump_of}
use Rattle.ranks.specs.Inner.{different}
use Rattle.keys.proofs.Weights.{climbs_lower}
use Rattle.keys.proofs.Entering.{Every}
use Rattle.keys.proofs.Climbing.{climbs-append, climbs-drop, climbs-take, every_joined, every_list, only_climbs, row_back}
use Rattle.keys.proofs.Rising.{climbs_rising, rising_climbs}
use Rattle.level.proofs.Ranked.{clumps_are, clumps_count, every_below, every_has}

-- those of a list that pass a test, and those behind some
every_only : (P : ℕ → Type 0) (test : ℕ → Bool) (l : List ℕ) → Every P l → Every P (only test l)
every_only P test [] e = tt
every_only P test (x ∷ l) e = by_test (test x) (every_only P test l e.1)
  where
    by_test : (t : Bool) → Every P (only test l) → Every P (cond t (x ∷ only test l) (only test l))
    by_test true rest = (e.0, rest)
    by_test false rest = rest

every_drop : (P : ℕ → Type 0) (n : ℕ) (l : List ℕ) → Every P l → Every P (drop n l)
every_drop P zero l e = e
every_drop P (suc n) [] e = tt
every_drop P (suc n) (x ∷ l) e = every_drop P n l e.1

-- numbers that climb, and are all below n
climbs_capped : (lo hi n : ℕ) (l : List ℕ) → Climbs lo hi l → Every (λ x. x < n) l → Climbs lo n l
climbs_capped lo hi n [] c e = tt
climbs_capped lo hi n (x ∷ l) c e = (c.0, e.0, climbs_capped (x + 1) hi n l c.2 e.1)

module _ (l : Level) (n : ℕ) (s : List ℕ) (some : 1 ≤ l.a) (rising : Rising n s) where
  climbs : Climbs 0 n s
  climbs = rising_climbs n s rising

  pub overflow_rises : Rising n (overflow_of l n s)
  unfolding overflow_of
  overflow_rises = climbs_rising n _ (climbs_capped 0 (group_count a n * a) n (joined (group_count a n) part) (parts (group_count a n)) (every_joined (λ x. x < n) (group_count a n) part low))
    where
      a : ℕ
      a = l.a

      part : ℕ → List ℕ
      part k = remainder l.b (in_part a k s)

      low : (k : ℕ) → k < group_count a n → Every (λ x. x < n) (part k)
      low k h = every_drop (λ x. x < n) (length (in_part a k s) / l.b * l.b) (in_part a k s) (every_only (λ x. x < n) (λ x. x / a =? k) s (every_below 0 n s climbs))

      parts : (P : ℕ) → Climbs 0 (P * a) (joined P part)
      parts zero = tt
      parts (suc P) =
          let e : (P + 1) * a ≡ suc P * a = ap (λ (m : ℕ). m * a) (omega arith) in
          let more : P * a ≤ suc P * a = mul-le-mul_right a (omega arith) in
          climbs-append 0 (P * a) (suc P * a) (joined P part) (part P) (omega arith) more (parts P)
          (subst (λ (m : ℕ). Climbs (P * a) m (part P)) e
          (climbs-drop (P * a) ((P + 1) * a) (length (in_part a P s) / l.b * l.b) (in_part a P s) (only_climbs a P some 0 n (P * a) s climbs (λ x g h. h))))

  -- each clump
  pub clumps_rise : Every (Rising n) (clumps_of l n s)
  unfolding clumps_of
  clumps_rise =
      every_joined (Rising n) (group_count l.a n) _ (λ k h. every_list (Rising n) (length (in_part l.a k s) / l.b) _ (λ m g. one k m))
    where
      here : (k : ℕ) → Climbs 0 n (in_part l.a k s)
      here k =
          climbs_lower 0 (k * l.a) n (in_part l.a k s) (omega arith)
          (climbs_capped (k * l.a) ((k + 1) * l.a) n (in_part l.a k s) (only_climbs l.a k some 0 n (k * l.a) s climbs (λ x g h. h))
          (every_only (λ x. x < n) (λ x. x / l.a =? k) s (every_below 0 n s climbs)))

      one : (k m : ℕ) → Rising n (group l.b m (in_part l.a k s))
      one k m = climbs_rising n _ (climbs-take 0 n l.b (drop (m * l.b) (in_part l.a k s)) (climbs-drop 0 n (m * l.b) (in_part l.a k s) (here k)))

every_map : {A B : Type 0} (P : B → Type 0) (f : A → B) (l : List A) → Every P (map f l) → Every (λ x. P (f x)) l
every_map P f [] e = tt
every_map P f (x ∷ l) e = (e.0, every_map P f l e.1)

-- all clumps in order
module _ (l : Level) (somea : 1 ≤ l.a) (someb : 1 ≤ l.b) (n m : ℕ) (row : ℕ → List ℕ) (rising : (j : ℕ) → j < m → Rising n (row j)) where
  abbrev all : List ℕ
  all = joined m (λ j. map (key_in l.a) (clumps_of l n (row j)))

  rises : Every (λ x. Rising n (clump_of l.a x)) all
  rises =
      every_joined (λ x. Rising n (clump_of l.a x)) m _ (λ j h. every_map (Rising n) (clump_of l.a) (map (key_in l.a) (clumps_of l n (row j)))
      (subst (Every (Rising n)) (sym (row_back l n (row j) somea someb (rising_climbs n (row j) (rising j h)))) (clumps_rise l n (row j) somea (rising j h))))

  pub ordered_rise : (x : ℕ) → x < length (entered [] (joined m (λ j. clumps_of l n (row j)))) → Rising n (get_or (entered [] (joined m (λ j. clumps_of l n (row j)))) x [])
  ordered_rise x h =
      let T : ℕ = group_count l.a n * 2 ^ l.a in
      let inside : x < length (different all T) = omega (arith, clumps_count l somea someb n m row rising) in
      subst (Rising n)
      (sym (ap (λ (d : List (List ℕ)). get_or d x []) (clumps_are l somea someb n m row rising) ∙ get_d_map_in (clump_of l.a) (different all T) x 0 [] inside))
      (every_has (λ y. Rising n (clump_of l.a y)) (get_or (different all T) x 0) all rises (which_item (λ y. has y all) T x inside).1)
