-- One walk over the places finds the first at which something holds; the earliest of the columns' is the first at which it holds in some column.
use mathlib.Core.Path.{◌≡◌, refl, sym, ap, subst, ◌∙◌}
use mathlib.Core.Logic.{◌↔◌}
use Prim.Native.Nat.{ℕ, zero, suc, ◌+◌, ◌≤◌, ◌<◌}
use native.Mathlib.Decide.{dec_lt}
use native.Mathlib.Omega.{arith}
use Rattle.chain.specs.Verdict.{refused, refuse_at}
use Rattle.verify.specs.Verify.{earlier, earliest}
use Rattle.verify.proofs.Places.{earlier_first, earlier_less, earlier_more}
use Rattle.verify.proofs.Columns.{at_some}

-- s, of the places 1 to count, is the first at which B holds
pub record First (count : ℕ) (B : ℕ → Type 0) (s : ℕ) : Type 0 where
  pub some : 1 ≤ s
  pub inside : s ≤ count
  pub here : B s
  pub before : (t : ℕ) → 1 ≤ t → t < s → B t → ⊥

-- B holds in some of the columns below p
pub record InSome (p : ℕ) (B : ℕ → Type 0) : Type 0 where
  pub column : ℕ
  pub below : column < p
  pub there : B column

-- a place with 0 for none
pub data FirstPlace (count : ℕ) (B : ℕ → Type 0) : ℕ → Type 0 where
  nowhere : ((t : ℕ) → 1 ≤ t → t ≤ count → B t → ⊥) → FirstPlace count B 0
  first : {s : ℕ} → First count B s → FirstPlace count B s

-- `left k` is what is left to find after k places: at each it is found, or left to those that follow
module _ (count : ℕ) (B : ℕ → Type 0) (decide : (t : ℕ) → Dec (B t)) (left : ℕ → ℕ)
    (found : (k : ℕ) → k < count → B (suc k) → left k ≡ suc k)
    (on : (k : ℕ) → k < count → (B (suc k) → ⊥) → left k ≡ left (suc k))
    (none : left count ≡ 0) where
  walk : (n k : ℕ) → k + n ≡ count → left 0 ≡ left k → ((t : ℕ) → 1 ≤ t → t ≤ k → B t → ⊥) → FirstPlace count B (left 0)
  walk zero k e is past =
      let end : k ≡ count = omega arith in
      rw (is ∙ ap left end ∙ none) (nowhere (λ t h g. past t h (omega arith)))
  walk (suc n) k e is past = by_test (walk n (suc k) (omega arith)) (decide (suc k))
    where
      by_place : (B (suc k) → ⊥) → (t : ℕ) → 1 ≤ t → t ≤ suc k → Dec (t < suc k) → B t → ⊥
      by_place not t h g (yes lt) = past t h (omega arith)
      by_place not t h g (no ge) =
          let last : t ≡ suc k = omega arith in
          rw last not

      by_test : (left 0 ≡ left (suc k) → ((t : ℕ) → 1 ≤ t → t ≤ suc k → B t → ⊥) → FirstPlace count B (left 0)) → Dec (B (suc k))
          → FirstPlace count B (left 0)
      by_test ih (yes b) =
          rw (is ∙ found k (omega arith) b)
          (first {s = suc k} (record { some = omega arith; inside = omega arith; here = b; before = λ t h g. past t h (omega arith) }))
      by_test ih (no not) = ih (is ∙ on k (omega arith) not) (λ t h g. by_place not t h g (dec_lt t (suc k)))

  pub walked : FirstPlace count B (left 0)
  walked = walk count 0 (omega arith) refl (λ t h g b. omega arith)

-- one column more
module _ (p : ℕ) (B : ℕ → Type 0) where
  in_more : InSome p B → InSome (suc p) B
  in_more i = record { column = i.column; below = omega (arith, i.below); there = i.there }

  in_last : B p → InSome (suc p) B
  in_last b = record { column = p; below = omega arith; there = b }

  in_neither : (InSome p B → ⊥) → (B p → ⊥) → InSome (suc p) B → ⊥
  in_neither u v i = by_place (dec_lt i.column p)
    where
      by_place : Dec (i.column < p) → ⊥
      by_place (yes lt) = u (record { column = i.column; below = lt; there = i.there })
      by_place (no ge) =
          let last : i.column ≡ p = omega (arith, i.below) in
          v (subst B last i.there)

module _ (count : ℕ) (B : ℕ → ℕ → Type 0) where
  abbrev In : ℕ → ℕ → Type 0
  In p t = InSome p (λ c. B c t)

  more_first : (p s : ℕ) → First count (In p) s → ((t : ℕ) → 1 ≤ t → t < s → B p t → ⊥) → First count (In (suc p)) s
  more_first p s f v =
      record {
        some = f.some;
        inside = f.inside;
        here = in_more p (λ c. B c s) f.here;
        before = λ t h g. in_neither p (λ c. B c t) (f.before t h g) (v t h g);
      }

  last_first : (p s : ℕ) → First count (B p) s → ((t : ℕ) → 1 ≤ t → t < s → In p t → ⊥) → First count (In (suc p)) s
  last_first p s f u =
      record {
        some = f.some;
        inside = f.inside;
        here = in_last p (λ c. B c s) f.here;
        before = λ t h g. in_neither p (λ c. B c t) (u t h g) (f.before t h g);
      }

  both : (p : ℕ) {a b : ℕ} → FirstPlace count (In p) a → FirstPlace count (B p) b → FirstPlace count (In (suc p)) (earlier a b)
  both p (nowhere u) (nowhere v) = nowhere (λ t h g. in_neither p (λ c. B c t) (u t h g) (v t h g))
  both p (nowhere u) (first {s = s} f) = first (last_first p s f (λ t h g. u t h (omega (arith, f.inside))))
  both p (first {s = s} f) (nowhere v) =
      rw (← earlier_first s 0 (omega (arith, f.some)) refl) (first (more_first p s f (λ t h g. v t h (omega (arith, f.inside)))))
  both p (first {s = s} f) (first {s = r} g) = by_size (dec_lt s r)
    where
      by_size : Dec (s < r) → FirstPlace count (In (suc p)) (earlier s r)
      by_size (yes lt) =
          rw (← earlier_less s r (omega (arith, f.some)) (omega (arith, g.some)) lt)
          (first (more_first p s f (λ t h k. g.before t h (omega arith))))
      by_size (no ge) =
          rw (← earlier_more s r (omega (arith, f.some)) (omega (arith, g.some)) (omega arith))
          (first (last_first p r g (λ t h k. f.before t h (omega arith))))

  pub earliest_place : (p : ℕ) (f : ℕ → ℕ) → ((c : ℕ) → c < p → FirstPlace count (B c) (f c)) → FirstPlace count (In p) (earliest p f)
  earliest_place zero f each = nowhere (λ t h g i. omega (arith, i.below))
  earliest_place (suc p) f each = both p (earliest_place p f (λ c h. each c (omega arith))) (each p (omega arith))

-- a refusal at a place is one at the first place
module _ (count : ℕ) (B : ℕ → Type 0) (n s : ℕ) where
  at_first : (k : ℕ) → FirstPlace count B k → refuse_at n k ≡ refused n s → First count B s
  unfolding refuse_at
  at_first k (nowhere u) e = let z : ◌≡◌ {A = ℕ} 0 1 = cc in absurd (omega arith)
  at_first zero (first f) e = absurd (omega (arith, f.some))
  at_first (suc k) (first f) e = let is : suc k ≡ s = cc in rw is at f

  first_at : (k : ℕ) → FirstPlace count B k → First count B s → refuse_at n k ≡ refused n s
  first_at k (nowhere u) f = absurd (u s f.some f.inside f.here)
  first_at k (first g) f = sym (at_some n k s (omega (arith, f.some)) same)
    where
      by_size : Dec (s < k) → Dec (k < s) → s ≡ k
      by_size (yes lt) d = absurd (g.before s f.some lt f.here)
      by_size (no ge) (yes lt) = absurd (f.before k g.some lt g.here)
      by_size (no ge) (no le) = omega arith

      same : s ≡ k
      same = by_size (dec_lt s k) (dec_lt k s)

  pub refused_first : (k : ℕ) → FirstPlace count B k → refuse_at n k ≡ refused n s ↔ First count B s
  refused_first k place = (at_first k place, first_at k place)
