-- Renumbering keeps equal operands equal and others unlike, so the pool's squarings are those of its two parts.
use mathlib.Core.Path.{◌≡◌, refl, sym, ap, ap₂, ◌∙◌}
use mathlib.Core.Bool.{Bool, cond}
use mathlib.Core.List.{List, [], ◌∷◌, map}
use Prim.Native.Nat.{ℕ, ◌+◌, ◌<◌}
use native.Mathlib.Decide.{dec_lt, ℕ_discrete}
use native.Mathlib.Omega.{arith}
use lib.ListN.{length}
use Rattle.chain.specs.Tests.{◌=?◌}
use Rattle.chain.specs.Chain.{one, is_squaring, squarings_of}
use Rattle.chain.specs.declared.Step.{Step}
use Rattle.chain.proofs.Rules.{eq_yes, eq_no}
use Rattle.chain.proofs.Squarings.{squarings-append}
use Rattle.pool.specs.Pool.{Part, renumbered, renumbered_step, pooled_steps}
use Rattle.pool.proofs.Numbers.{renumbered_start, renumbered_step_lem}

module _ (p n : ℕ) where
  -- no two numbers become one
  renumbered_apart : (a b : ℕ) → renumbered p n a ≡ renumbered p n b → a ≡ b
  renumbered_apart a b e = by_sizes (dec_lt p a) (dec_lt p b)
    where
      by_sizes : Dec (p < a) → Dec (p < b) → a ≡ b
      by_sizes (yes h) (yes k) = omega (arith, e, renumbered_step_lem p n a h, renumbered_step_lem p n b k)
      by_sizes (yes h) (no k) = omega (arith, e, renumbered_step_lem p n a h, renumbered_start p n b (omega arith))
      by_sizes (no h) (yes k) = omega (arith, e, renumbered_start p n a (omega arith), renumbered_step_lem p n b k)
      by_sizes (no h) (no k) = omega (arith, e, renumbered_start p n a (omega arith), renumbered_start p n b (omega arith))

  test_kept : (a b : ℕ) → (renumbered p n a =? renumbered p n b) ≡ (a =? b)
  test_kept a b = by_equal (ℕ_discrete a b)
    where
      by_equal : Dec (a ≡ b) → (renumbered p n a =? renumbered p n b) ≡ (a =? b)
      by_equal (yes e) = eq_yes _ _ (ap (renumbered p n) e) ∙ sym (eq_yes a b e)
      by_equal (no ne) = eq_no _ _ (λ e. ne (renumbered_apart a b e)) ∙ sym (eq_no a b ne)

  -- any step is a squaring in the pool exactly if it is one in its part
  squaring_kept : (x : Step) → one is_squaring (renumbered_step p n x) ≡ one is_squaring x
  unfolding one
  squaring_kept x = ap (λ (t : Bool). cond t 1 0) (test_kept x.first x.second)

  squarings_kept : (steps : List Step) → squarings_of (map (renumbered_step p n) steps) ≡ squarings_of steps
  unfolding squarings_of
  squarings_kept [] = refl
  squarings_kept (x ∷ r) = ap₂ ◌+◌ (squaring_kept x) (squarings_kept r)

pub squarings_pooled : (a b : Part) → squarings_of (pooled_steps a b) ≡ squarings_of a.steps + squarings_of b.steps
squarings_pooled a b =
    squarings-append a.steps (map (renumbered_step b.p (length a.steps)) b.steps)
    ∙ ap (λ (k : ℕ). squarings_of a.steps + k) (squarings_kept b.p (length a.steps) b.steps)
