-- Every step is a squaring or another product, so the two add up to n. What is counted for one step, and what a judge tells that counts.
use mathlib.Core.Bool.{Bool, true, false}
use mathlib.Core.Path.{◌≡◌, refl, sym, ap, ◌∙◌}
use mathlib.Core.List.{List, [], ◌∷◌, ◌++◌}
use Prim.Native.Nat.{ℕ, ◌+◌, ◌-◌, ◌≤◌, ◌<◌}
use native.Mathlib.Omega.{arith}
use lib.ListN.{length, get_or}
use Rattle.chain.specs.Tests.{◌=?◌}
use Rattle.chain.specs.Verdict.{Verdict, fine, refused, done, refusal}
use Rattle.chain.specs.Chain.{by, step_rule, one, how_many, is_squaring, is_other, squarings_of, products_of, counts}
use Rattle.chain.specs.Inner.{counted_by, SquaringCounted}
use Rattle.chain.specs.declared.Step.{Step}
use Rattle.chain.proofs.Rules.{eq_yes, eq_no, ne_yes, ne_no, is_eq, not_eq, answer_refused, answer_done}
use Rattle.chain.proofs.Told.{told, told_values_lem}
use Rattle.chain.proofs.Steps.{step_legal}

-- a step is one or the other
one_each : (x : Step) → one is_squaring x + one is_other x ≡ 1
unfolding one
one_each x = by_test (x.first =? x.second) refl
  where
    by_test : (b : Bool) → (x.first =? x.second) ≡ b → one is_squaring x + one is_other x ≡ 1
    by_test true e = rw (e, ne_no x.first x.second (is_eq _ _ e))
    by_test false e = rw (e, ne_yes x.first x.second (not_eq _ _ e))

pub adds_up : (steps : List Step) → squarings_of steps + products_of steps ≡ length steps
unfolding squarings_of products_of
adds_up [] = refl
adds_up (x ∷ r) = omega (arith, one_each x, adds_up r)

-- so neither is more than n, and each tells the other
pub squarings_few : (steps : List Step) → squarings_of steps ≤ length steps
squarings_few steps = omega (arith, adds_up steps)

pub counts_are : (steps : List Step) (n s : ℕ) → n ≡ length steps → s ≡ squarings_of steps → n ∷ s ∷ (n - s) ∷ [] ≡ counts steps
unfolding counts
counts_are steps n s e f =
    let rest : n - s ≡ products_of steps = omega (arith, adds_up steps) in
    rw (rest, e, f)

-- those of two lists, one after the other
many_append : (test : Step → Bool) (a b : List Step) → how_many test (a ++ b) ≡ how_many test a + how_many test b
many_append test [] b = omega arith
many_append test (x ∷ a) b = omega (arith, many_append test a b)

pub squarings-append : (a b : List Step) → squarings_of (a ++ b) ≡ squarings_of a + squarings_of b
unfolding squarings_of
squarings-append a b = many_append is_squaring a b

pub squarings_one : (x : Step) → squarings_of (x ∷ []) ≡ one is_squaring x
unfolding squarings_of
squarings_one x = omega arith

-- a step counted
pub one_equal : (a b : ℕ) → a ≡ b → 1 ≡ one is_squaring (by a b)
unfolding one
one_equal a b e = rw (eq_yes a b e)

pub one_unequal : (a b : ℕ) → (a ≡ b → ⊥) → 0 ≡ one is_squaring (by a b)
unfolding one
one_unequal a b ne = rw (eq_no a b ne)

-- operands that are in order
pub one_below : (a b : ℕ) → b < a → b ≤ a → 0 ≡ one is_squaring (by a b)
one_below a b lt le = one_unequal a b (omega arith)

pub one_not_below : (a b : ℕ) → a ≤ b → b ≤ a → 1 ≡ one is_squaring (by a b)
one_not_below a b ge le = one_equal a b (omega arith)

-- as those of a step that was judged are
pub counted_one : (v s : ℕ) (x : Step) (d : ℕ) → fine ≡ step_rule v s x → SquaringCounted x d → d ≡ one is_squaring x
counted_one v s x d ok c = c.is (step_legal v s x (sym ok)).in_order

-- what is answered with a number, once the rule's verdict is known
module _ (v : Verdict) (number : ℕ) where
  pub counted_refused : (n s : ℕ) → refused n s ≡ v → refusal n s ≡ counted_by v number
  unfolding counted_by
  counted_refused n s e = answer_refused v _ n s e

  pub counted_done : (k : ℕ) → fine ≡ v → k ≡ number → done (k ∷ []) ≡ counted_by v number
  unfolding counted_by
  counted_done k e f = ap (λ (x : ℕ). done (x ∷ [])) f ∙ answer_done v _ e

  -- and what a callee's answer tells of them
  pub found_refused : (n s : ℕ) → refusal n s ≡ counted_by v number → refused n s ≡ v
  unfolding counted_by
  found_refused n s e = told _ _ _ e

  module _ (k : ℕ) (e : done (k ∷ []) ≡ counted_by v number) where
    pub found_fine : fine ≡ v
    unfolding counted_by
    found_fine = told _ _ _ e

    pub found_number : k ≡ number
    unfolding counted_by
    found_number = ap (λ (l : List ℕ). get_or l 0 0) (told_values_lem _ _ _ e)

pub ruleset counting = (counted_refused, counted_done, found_refused, found_fine, found_number)
