-- The keys of a rising row's clumps rise: those of a part are behind those of the parts before it, and in a part each clump begins above the one before
-- it, so it weighs less.
use mathlib.Core.Path.{◌≡◌, refl, sym, ap, subst, ◌∙◌}
use mathlib.Core.Bool.{Bool, true, false, cond}
use mathlib.Core.List.{List, [], ◌∷◌, ◌++◌, map}
use Prim.Native.Nat.{ℕ, zero, suc, ◌+◌, ◌-◌, ◌*◌, ◌/◌, ◌^◌, ◌≤◌, ◌<◌}
use native.Mathlib.Nat.{mul-le-mul_right, add-mul, one-mul, suc-mul, div-add-mod', mod-lt}
use native.Mathlib.Omega.{arith}
use lib.ListN.{length, take, drop, length-drop}
use lib.Seq.{drop-drop}
use Rattle.chain.specs.Tests.{◌=?◌}
use Rattle.chain.proofs.Rules.{is_eq}
use Rattle.digits.specs.Range.{list_to}
use Rattle.digits.proofs.Blocks.{block_div}
use Rattle.digits.proofs.Listed.{list_same}
use Rattle.groups.specs.Groups.{group, group_count}
use Rattle.groups.proofs.Groups.{length-group}
use Rattle.clumps.specs.Lists.{joined}
use Rattle.clumps.proofs.Lists.{joined_same, map-list, map-joined}
use Rattle.clumps.specs.Clumps.{Level, in_part, taken, clumps_of}
use Rattle.keys.specs.Inner.{Climbs, weight_of, key_of, key_in, clump_of}
use Rattle.keys.proofs.Weights.{climbs_lower, weight_low}
use Rattle.keys.proofs.Keys.{InPart, clump_of_key, key_low, key_high, key_rises}
use Rattle.keys.proofs.Entering.{Every, every_append}

pub climbs-append : (lo mid hi : ℕ) (l r : List ℕ) → lo ≤ mid → mid ≤ hi → Climbs lo mid l → Climbs mid hi r → Climbs lo hi (l ++ r)
climbs-append lo mid hi [] r h g c d = climbs_lower lo mid hi r h d
climbs-append lo mid hi (x ∷ l) r h g c d = (c.0, omega (arith, c.1), climbs-append (x + 1) mid hi l r (omega (arith, c.1)) g c.2 d)

climbs_higher : (lo mid hi : ℕ) (l : List ℕ) → mid ≤ hi → Climbs lo mid l → Climbs lo hi l
climbs_higher lo mid hi [] h c = tt
climbs_higher lo mid hi (x ∷ l) h c = (c.0, omega (arith, c.1), climbs_higher (x + 1) mid hi l h c.2)

pub climbs-take : (lo hi n : ℕ) (l : List ℕ) → Climbs lo hi l → Climbs lo hi (take n l)
climbs-take lo hi zero l c = tt
climbs-take lo hi (suc n) [] c = tt
climbs-take lo hi (suc n) (x ∷ l) c = (c.0, c.1, climbs-take (x + 1) hi n l c.2)

pub climbs-drop : (lo hi n : ℕ) (l : List ℕ) → Climbs lo hi l → Climbs lo hi (drop n l)
climbs-drop lo hi zero l c = c
climbs-drop lo hi (suc n) [] c = tt
climbs-drop lo hi (suc n) (x ∷ l) c = climbs_lower lo (x + 1) hi (drop n l) (omega (arith, c.0)) (climbs-drop (x + 1) hi n l c.2)

-- numbers f 0, f 1, .. each above the one before it
from_first : (f : ℕ → ℕ) (n : ℕ) → ((i : ℕ) → i < n → f i < f (suc i)) → f 0 ≤ f n
from_first f zero up = omega arith
from_first f (suc n) up = omega (arith, from_first f n (λ i g. up i (omega arith)), up n (omega arith))

climbs_list : (lo : ℕ) (f : ℕ → ℕ) (n : ℕ) → lo ≤ f 0 → ((i : ℕ) → i < n → f i < f (suc i)) → Climbs lo (f n + 1) (list_to (suc n) f)
climbs_list lo f zero h up = (h, omega arith, tt)
climbs_list lo f (suc n) h up =
    climbs-append lo (f n + 1) (f (suc n) + 1) (list_to (suc n) f) (f (suc n) ∷ []) (omega (arith, from_first f n (λ i g. up i (omega arith)))) (omega (arith, up n (omega arith))) (climbs_list lo f n h (λ i g. up i (omega arith)))
    (omega (arith, up n (omega arith)), omega arith, tt)

-- those of a list that lie in part k climb in it
pub only_climbs : (a k : ℕ) → 1 ≤ a → (lo hi from : ℕ) (s : List ℕ) → Climbs lo hi s → ((x : ℕ) → lo ≤ x → k * a ≤ x → from ≤ x)
    → Climbs from ((k + 1) * a) (in_part a k s)
only_climbs a k some lo hi from [] c h = tt
only_climbs a k some lo hi from (x ∷ s) c h =
    by_test (only_climbs a k some (x + 1) hi (x + 1) s c.2 (λ y g i. g)) (only_climbs a k some (x + 1) hi from s c.2 (λ y g i. h y (omega (arith, c.0)) i))
    (x / a =? k) refl
  where
    by_test : Climbs (x + 1) ((k + 1) * a) (in_part a k s) → Climbs from ((k + 1) * a) (in_part a k s) → (t : Bool) → (x / a =? k) ≡ t
        → Climbs from ((k + 1) * a) (cond t (x ∷ in_part a k s) (in_part a k s))
    by_test above rest true e =
        let own : k * a ≡ x / a * a = ap (λ (n : ℕ). n * a) (sym (is_eq (x / a) k e)) in
        let next : (k + 1) * a ≡ k * a + a = add-mul k 1 a ∙ ap (λ (n : ℕ). k * a + n) (one-mul a) in
        let split = div-add-mod' x a in
        let low = mod-lt x some in
        (h x c.0 (omega arith), omega arith, above)
    by_test above rest false e = rest

-- so many from the front on weigh less than those before them
next_lighter : (lo hi b : ℕ) (l : List ℕ) → 1 ≤ b → 1 ≤ length l → Climbs lo hi l → weight_of hi (take b (drop b l)) < weight_of hi (take b l)
next_lighter lo hi b [] h g c = absurd (omega arith)
next_lighter lo hi zero (x ∷ l) h g c = absurd (omega arith)
next_lighter lo hi (suc b) (x ∷ l) h g c =
    let after = climbs-take (x + 1) hi (suc b) (drop b l) (climbs-drop (x + 1) hi b l c.2) in
    let low = weight_low (x + 1) hi (take (suc b) (drop b l)) (omega (arith, c.1)) after in
    let e : 2 ^ (hi - (x + 1)) ≡ 2 ^ (hi - 1 - x) = ap (λ (n : ℕ). 2 ^ n) (omega arith) in
    omega arith

-- the first number of a clump tells its part
in_part_lem : (a k x : ℕ) → 1 ≤ a → k * a ≤ x → x < (k + 1) * a → x / a ≡ k
in_part_lem a k x some h g =
    let next : (k + 1) * a ≡ k * a + a = add-mul k 1 a ∙ ap (λ (n : ℕ). k * a + n) (one-mul a) in
    let e : x ≡ k * a + (x - k * a) = omega arith in
    ap (λ (n : ℕ). n / a) e ∙ block_div k a (x - k * a) (omega arith)

pub key_in_lem : (a k : ℕ) (u : List ℕ) → 1 ≤ a → InPart a k u → 1 ≤ length u → key_in a u ≡ key_of a k u
key_in_lem a k [] some c h = absurd (omega arith)
key_in_lem a k (x ∷ u) some c h = ap (λ (n : ℕ). key_of a n (x ∷ u)) (in_part_lem a k x some c.0 c.1)

-- the key of a clump of b
pub record Good (a b x : ℕ) : Type 0 where
  pub part : ℕ
  pub clump : List ℕ
  pub inside : InPart a part clump
  pub long : length clump ≡ b
  pub is : x ≡ key_of a part clump

pub every_list : {A : Type 0} (P : A → Type 0) (n : ℕ) (f : ℕ → A) → ((i : ℕ) → i < n → P (f i)) → Every P (list_to n f)
every_list P zero f h = tt
every_list P (suc n) f h = every_append P (list_to n f) (f n ∷ []) (every_list P n f (λ i g. h i (omega arith))) (h n (omega arith), tt)

pub every_joined : {A : Type 0} (P : A → Type 0) (n : ℕ) (f : ℕ → List A) → ((i : ℕ) → i < n → Every P (f i)) → Every P (joined n f)
every_joined P zero f h = tt
every_joined P (suc n) f h = every_append P (joined n f) (f n) (every_joined P n f (λ i g. h i (omega arith))) (h n (omega arith))

module _ (a b : ℕ) (somea : 1 ≤ a) (someb : 1 ≤ b) where
  module _ (k : ℕ) (here : List ℕ) (c : InPart a k here) where
    abbrev clump : ℕ → List ℕ
    clump m = group b m here

    clump_in_lem : (m : ℕ) → InPart a k (clump m)
    clump_in_lem m = climbs-take (k * a) ((k + 1) * a) b (drop (m * b) here) (climbs-drop (k * a) ((k + 1) * a) (m * b) here c)

    full : (m : ℕ) → m < length here / b → (1 ≤ length (drop (m * b) here)) × (length (clump m) ≡ b)
    full m h =
        let most : suc m * b ≤ length here / b * b = mul-le-mul_right b h in (
          omega (arith, length-drop (m * b) here, div-add-mod' (length here) b, suc-mul m b),
          omega (arith, length-group b m here, div-add-mod' (length here) b, suc-mul m b),
        )

    up : (m : ℕ) → suc m < length here / b → key_of a k (clump m) < key_of a k (clump (suc m))
    up m h =
        let next : drop b (drop (m * b) here) ≡ drop (suc m * b) here = drop-drop b (m * b) here ∙ ap (λ (n : ℕ). drop n here) (sym (suc-mul m b)) in
        key_rises a k (clump m) (clump (suc m)) (clump_in_lem m) (clump_in_lem (suc m))
        (subst (λ (l : List ℕ). weight_of ((k + 1) * a) (take b l) < weight_of ((k + 1) * a) (clump m)) next
        (next_lighter (k * a) ((k + 1) * a) b (drop (m * b) here) someb (full m (omega arith)).0 (climbs-drop (k * a) ((k + 1) * a) (m * b) here c)))

    part_climbs : Climbs (k * 2 ^ a) ((k + 1) * 2 ^ a) (map (key_in a) (taken b here))
    part_climbs = subst (Climbs (k * 2 ^ a) ((k + 1) * 2 ^ a)) (sym keys) (by_count (length here / b) (λ m h. h))
      where
        keys : map (key_in a) (taken b here) ≡ list_to (length here / b) (λ m. key_of a k (clump m))
        keys =
            map-list (key_in a) (length here / b) (λ m. group b m here)
            ∙ list_same (length here / b) _ _ (λ m h. key_in_lem a k (clump m) somea (clump_in_lem m) (omega (arith, (full m h).1)))

        by_count : (n : ℕ) → ((m : ℕ) → m < n → m < length here / b) → Climbs (k * 2 ^ a) ((k + 1) * 2 ^ a) (list_to n (λ m. key_of a k (clump m)))
        by_count zero h = tt
        by_count (suc n) h =
            climbs_higher (k * 2 ^ a) (key_of a k (clump n) + 1) ((k + 1) * 2 ^ a) (list_to (suc n) (λ m. key_of a k (clump m)))
            (omega (arith, key_low a k (k + 1) (clump n) (clump_in_lem n) (omega arith)))
            (climbs_list (k * 2 ^ a) (λ m. key_of a k (clump m)) n (key_high a k (clump 0) (clump_in_lem 0)) (λ m g. up m (h (suc m) (omega arith))))

    part_back : map (clump_of a) (map (key_in a) (taken b here)) ≡ taken b here
    part_back =
        ap (map (clump_of a)) (map-list (key_in a) (length here / b) (λ m. group b m here))
        ∙ map-list (clump_of a) (length here / b) _
        ∙ list_same (length here / b) _ _ (λ m h. ap (clump_of a) (own m h) ∙ clump_of_key a k (clump m) (clump_in_lem m))
      where
        own : (m : ℕ) → m < length here / b → key_in a (clump m) ≡ key_of a k (clump m)
        own m h = key_in_lem a k (clump m) somea (clump_in_lem m) (omega (arith, (full m h).1))

    part_good : Every (Good a b) (map (key_in a) (taken b here))
    part_good =
        subst (Every (Good a b)) (sym (map-list (key_in a) (length here / b) (λ m. group b m here)))
        (every_list (Good a b) (length here / b) _ (λ m h. record { part = k; clump = clump m; inside = clump_in_lem m; long = (full m h).1; is = key_in_lem a k (clump m) somea (clump_in_lem m) (omega (arith, (full m h).1)) }))

-- a row's
pub row_climbs : (l : Level) (n : ℕ) (s : List ℕ) → 1 ≤ l.a → 1 ≤ l.b → Climbs 0 n s → Climbs 0 (group_count l.a n * 2 ^ l.a) (map (key_in l.a) (clumps_of l n s))
unfolding clumps_of
row_climbs l n s somea someb c =
    subst (Climbs 0 (group_count a n * 2 ^ a)) (sym (map-joined (key_in a) (group_count a n) _)) (parts (group_count a n))
  where
    a : ℕ
    a = l.a

    part : ℕ → List ℕ
    part k = map (key_in a) (taken l.b (in_part a k s))

    parts : (P : ℕ) → Climbs 0 (P * 2 ^ a) (joined P part)
    parts zero = tt
    parts (suc P) =
        let e : (P + 1) * 2 ^ a ≡ suc P * 2 ^ a = ap (λ (m : ℕ). m * 2 ^ a) (omega arith) in
        let more : P * 2 ^ a ≤ suc P * 2 ^ a = mul-le-mul_right (2 ^ a) (omega arith) in
        climbs-append 0 (P * 2 ^ a) (suc P * 2 ^ a) (joined P part) (part P) (omega arith) more (parts P)
        (subst (λ (m : ℕ). Climbs (P * 2 ^ a) m (part P)) e
        (part_climbs a l.b somea someb P (in_part a P s) (only_climbs a P somea 0 n (P * a) s c (λ x g h. h))))

module _ (l : Level) (n : ℕ) (s : List ℕ) (somea : 1 ≤ l.a) (someb : 1 ≤ l.b) (c : Climbs 0 n s) where
  inside : (k : ℕ) → InPart l.a k (in_part l.a k s)
  inside k = only_climbs l.a k somea 0 n (k * l.a) s c (λ x g h. h)

  -- the keys give the row's clumps back
  pub row_back : map (clump_of l.a) (map (key_in l.a) (clumps_of l n s)) ≡ clumps_of l n s
  unfolding clumps_of
  row_back =
      ap (map (clump_of l.a)) (map-joined (key_in l.a) (group_count l.a n) _)
      ∙ map-joined (clump_of l.a) (group_count l.a n) _
      ∙ joined_same (group_count l.a n) _ _ (λ k h. part_back l.a l.b somea someb k (in_part l.a k s) (inside k))

  pub row_good : Every (Good l.a l.b) (map (key_in l.a) (clumps_of l n s))
  unfolding clumps_of
  row_good =
      subst (Every (Good l.a l.b)) (sym (map-joined (key_in l.a) (group_count l.a n) _))
      (every_joined (Good l.a l.b) (group_count l.a n) _ (λ k h. part_good l.a l.b somea someb k (in_part l.a k s) (inside k)))
