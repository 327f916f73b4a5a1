-- Rows whose clumps are known by their keys: the clumps of all rows in order are those of the different keys, and the ranks of a row's keys are the places
-- of its clumps among them, rising.
use mathlib.Core.Path.{◌≡◌, refl, sym, ap, ap₂, subst, ◌∙◌}
use mathlib.Core.Bool.{Bool, true, false, true≢false}
use mathlib.Core.List.{List, [], ◌∷◌, map}
use Prim.Native.Nat.{ℕ, ◌+◌, ◌*◌, ◌^◌, ◌≤◌, ◌<◌}
use native.Mathlib.Decide.{dec_lt, ℕ_discrete}
use native.Mathlib.Omega.{arith}
use lib.ListN.{length, get_or, length-map}
use Rattle.chain.specs.Tests.{◌<?◌, ◌=?◌, ◌or◌}
use Rattle.chain.proofs.Rules.{eq_yes, eq_no, is_eq}
use Rattle.digits.specs.Range.{list_to}
use Rattle.digits.proofs.Listed.{get_d_list, length-list}
use Rattle.groups.specs.Groups.{group_count}
use Rattle.clumps.specs.Lists.{joined, which, has, equal, holds, precedes, entered}
use Rattle.clumps.specs.Clumps.{Level, clumps_in, clumps_of}
use Rattle.clumps.proofs.Lists.{false_or, get_d_map_in, has_joined, joined_same, map-joined, which_same}
use Rattle.clumps.proofs.Often.{members_tell}
use Rattle.clumps.proofs.Ranked.{which_item}
use Rattle.rows.specs.Inner.{Rising}
use Rattle.rows.proofs.Rows.{which_rises, rising_less}
use Rattle.keys.specs.Inner.{Climbs, key_in, clump_of}
use Rattle.keys.proofs.Keys.{clump_of_key, key_order}
use Rattle.keys.proofs.Entering.{Every, key_there, entered_is}
use Rattle.keys.proofs.Climbing.{Good, key_in_lem, every_joined, row_climbs, row_back, row_good}
use Rattle.keys.proofs.Rising.{climbs_rising, rising_climbs}
use Rattle.ranks.specs.Inner.{different, rank_in}
use Rattle.ranks.proofs.Ranks.{rank_at, rank_low, rising_is, ranks_rise, has_rank}

-- keys of clumps of one size
module _ (a b : ℕ) (somea : 1 ≤ a) (someb : 1 ≤ b) where
  clump_is : (x : ℕ) (g : Good a b x) → clump_of a x ≡ g.clump
  clump_is x g = ap (clump_of a) g.is ∙ clump_of_key a g.part g.clump g.inside

  pub clump_long : (x : ℕ) → Good a b x → length (clump_of a x) ≡ b
  clump_long x g = ap length (clump_is x g) ∙ g.long

  pub good_order : (x y : ℕ) → Good a b x → Good a b y → precedes (clump_of a x) (clump_of a y) ≡ (x <? y)
  good_order x y g h =
      ap₂ precedes (clump_is x g) (clump_is y h)
      ∙ key_order a g.part h.part g.clump h.clump g.inside h.inside (g.long ∙ sym h.long) (omega (arith, g.long))
      ∙ ap₂ ◌<?◌ (sym g.is) (sym h.is)

  -- the key that a clump has
  own : (x : ℕ) → Good a b x → x ≡ key_in a (clump_of a x)
  own x g = g.is ∙ sym (ap (key_in a) (clump_is x g) ∙ key_in_lem a g.part g.clump somea g.inside (omega (arith, g.long)))

  pub good_tells : (x y : ℕ) → Good a b x → Good a b y → equal (clump_of a x) (clump_of a y) ≡ (x =? y)
  good_tells x y g h = by_key (ℕ_discrete x y) (equal (clump_of a x) (clump_of a y)) refl
    where
      by_key : Dec (x ≡ y) → (t : Bool) → equal (clump_of a x) (clump_of a y) ≡ t → t ≡ (x =? y)
      by_key (yes e) t is = sym is ∙ ap (λ (z : ℕ). equal (clump_of a x) (clump_of a z)) (sym e) ∙ members_tell.own (clump_of a x) ∙ sym (eq_yes x y e)
      by_key (no ne) false is = sym (eq_no x y ne)
      by_key (no ne) true is = absurd (ne (own x g ∙ ap (key_in a) (members_tell.sound (clump_of a x) (clump_of a y) is) ∙ sym (own y h)))

pub every_below : (lo hi : ℕ) (l : List ℕ) → Climbs lo hi l → Every (λ x. x < hi) l
every_below lo hi [] c = tt
every_below lo hi (x ∷ l) c = (c.1, every_below (x + 1) hi l c.2)

pub every_has : (P : ℕ → Type 0) (x : ℕ) (l : List ℕ) → Every P l → has x l ≡ true → P x
every_has P x [] e h = absurd (true≢false (sym h))
every_has P x (y ∷ l) e h = by_first (every_has P x l e.1) (x =? y) refl h
  where
    by_first : (has x l ≡ true → P x) → (t : Bool) → (x =? y) ≡ t → (t or has x l) ≡ true → P x
    by_first rest true is g = subst P (sym (is_eq x y is)) e.0
    by_first rest false is g = rest (sym (false_or (has x l)) ∙ g)

-- the clumps of some lists, list by list
pub clumps_listed : (m : ℕ) (C : ℕ → List (List ℕ)) → clumps_in (list_to m C) ≡ entered [] (joined m C)
clumps_listed m C =
    ap (entered []) (ap (λ (k : ℕ). joined k (λ i. get_or (list_to m C) i [])) (length-list m C) ∙ joined_same m _ C (λ j h. get_d_list m C [] j h))

-- the rank of what stands at a place is the place
rank_of : (l : List ℕ) (n x : ℕ) → x < length (different l n) → rank_in l (get_or (different l n) x 0) ≡ x
rank_of l n x h = by_order (dec_lt rank x) (dec_lt x rank)
  where
    y : ℕ
    y = get_or (different l n) x 0

    rank : ℕ
    rank = rank_in l y

    there : (y < n) × (has y l ≡ true)
    there = which_item (λ z. has z l) n x h

    less : (i k : ℕ) → i < k → k < length (different l n) → get_or (different l n) i 0 < get_or (different l n) k 0
    less = rising_less n (different l n) (which_rises (λ z. has z l) n)

    by_order : Dec (rank < x) → Dec (x < rank) → rank ≡ x
    by_order (yes lt) g = absurd (omega (arith, less rank x lt h, rank_at l y there.1 n there.0))
    by_order (no ge) (yes gt) = absurd (omega (arith, less x rank gt (rank_low l y there.1 n there.0), rank_at l y there.1 n there.0))
    by_order (no ge) (no le) = omega arith

module _ (l : Level) (somea : 1 ≤ l.a) (someb : 1 ≤ l.b) (n m : ℕ) (row : ℕ → List ℕ) (rising : (j : ℕ) → j < m → Rising n (row j)) where
  abbrev a : ℕ
  a = l.a

  abbrev size : ℕ
  size = group_count a n * 2 ^ a

  abbrev keys : ℕ → List ℕ
  keys j = map (key_in a) (clumps_of l n (row j))

  abbrev all : List ℕ
  all = joined m keys

  abbrev clumps : List (List ℕ)
  clumps = entered [] (joined m (λ j. clumps_of l n (row j)))

  climbs : (j : ℕ) → j < m → Climbs 0 n (row j)
  climbs j h = rising_climbs n (row j) (rising j h)

  pub goods : Every (Good a l.b) all
  goods = every_joined (Good a l.b) m keys (λ j h. row_good l n (row j) somea someb (climbs j h))

  pub low : Every (λ x. x < size) all
  low = every_joined (λ x. x < size) m keys (λ j h. every_below 0 size (keys j) (row_climbs l n (row j) somea someb (climbs j h)))

  -- all clumps in order are those of the different keys
  pub clumps_are : clumps ≡ map (clump_of a) (different all size)
  clumps_are =
      ap (entered [])
      (sym (map-joined (clump_of a) m keys ∙ joined_same m _ _ (λ j h. row_back l n (row j) somea someb (climbs j h))))
      ∙ entered_is (clump_of a) (Good a l.b) (good_order a l.b somea someb) (good_tells a l.b somea someb) size all goods low

  pub clumps_count : length clumps ≡ length (different all size)
  clumps_count = ap length clumps_are ∙ length-map (different all size) (clump_of a)

  -- the ranks of a row's keys are its clumps' places
  pub ranks_are : (j : ℕ) → j < m → map (rank_in all) (keys j) ≡ which (λ x. holds (get_or clumps x []) (clumps_of l n (row j))) (length clumps)
  ranks_are j h =
      sym (rising_is K (map (rank_in all) (keys j)) (ranks_rise all (keys j) member size (climbs_rising size (keys j) (row_climbs l n (row j) somea someb (climbs j h)))))
      ∙ which_same K _ _ (λ x g. one x g)
      ∙ ap (which (λ x. holds (get_or clumps x []) (clumps_of l n (row j)))) (sym clumps_count)
    where
      K : ℕ
      K = length (different all size)

      member : (x : ℕ) → has x (keys j) ≡ true → has x all ≡ true
      member x e = has_joined x m keys j h e

      one : (x : ℕ) → x < K → has x (map (rank_in all) (keys j)) ≡ holds (get_or clumps x []) (clumps_of l n (row j))
      one x g =
          let y : ℕ = get_or (different all size) x 0 in
          let there = which_item (λ x. has x all) size x g in
          ap (λ (z : ℕ). has z (map (rank_in all) (keys j))) (sym (rank_of all size x g))
          ∙ has_rank all (keys j) member y there.1
          ∙ sym (key_there (clump_of a) (Good a l.b) (good_order a l.b somea someb) (good_tells a l.b somea someb) y (keys j)
          (every_has (Good a l.b) y all goods there.1) (row_good l n (row j) somea someb (climbs j h)))
          ∙ ap₂ holds (sym (ap (λ (d : List (List ℕ)). get_or d x []) clumps_are ∙ get_d_map_in (clump_of a) (different all size) x 0 [] g))
          (row_back l n (row j) somea someb (climbs j h))
