-- The pool's figures are those of the first part, then those of the second: its residues are those of its parts.
use mathlib.Core.Path.{◌≡◌, refl, ap, ap₂, ◌∙◌}
use mathlib.Core.List.{List, [], ◌∷◌, ◌++◌, map}
use Prim.Native.Nat.{ℕ, suc, ◌%◌, ◌<◌}
use native.Mathlib.Omega.{arith}
use lib.ListN.{length, get_or}
use Rattle.chain.specs.Verdict.{fine}
use Rattle.chain.specs.Chain.{pick}
use Rattle.chain.proofs.Values.{values_keep}
use Rattle.chain.proofs.Limits.{outputs_low}
use Rattle.chain.proofs.Picked.{pick_same}
use Rattle.residue.specs.Residue.{times_mod}
use Rattle.run.specs.Run.{residues}
use Rattle.pool.specs.Pool.{Part, renumbered, poolable_rule, pooled_steps}
use Rattle.pool.proofs.Poolable.{Poolable, poolable}
use Rattle.pool_laws.specs.Pooled.{pooled, figures_of}
use Rattle.pool_laws.proofs.Values.{pooled_value}

pick-append : (vs l l' : List ℕ) → pick vs (l ++ l') ≡ pick vs l ++ pick vs l'
pick-append vs [] l' = refl
pick-append vs (o ∷ l) l' = ap (λ (t : List ℕ). get_or vs o 0 ∷ t) (pick-append vs l l')

-- values that agree at every output and its new number give the same figures
pick-map : (f : ℕ → ℕ) (vs ws l : List ℕ) → ((i : ℕ) → i < length l → get_or vs (f (get_or l i 0)) 0 ≡ get_or ws (get_or l i 0) 0)
    → pick vs (map f l) ≡ pick ws l
pick-map f vs ws [] e = refl
pick-map f vs ws (o ∷ l) e = ap₂ (λ (x : ℕ) (t : List ℕ). x ∷ t) (e 0 (omega arith)) (pick-map f vs ws l (λ i h. e (suc i) (omega arith)))

pub pool_figures : (a b : Part) (m : ℕ) (bases : List ℕ) → poolable_rule a b ≡ fine → length bases ≡ a.p
    → figures_of (pooled a b) m bases ≡ figures_of a m bases ++ figures_of b m bases
unfolding residues
pool_figures a b m bases e len =
    pick-append _ a.outputs _
    ∙ ap₂ (λ (l l' : List ℕ). l ++ l') (pick_same _ _ a.outputs first) (pick-map (renumbered b.p (length a.steps)) _ _ b.outputs second)
  where
    both : Poolable a b
    both = poolable a b e

    start : List ℕ
    start = 1 % m ∷ bases

    first : (i : ℕ) → i < length a.outputs
        → get_or (residues m bases (pooled_steps a b)) (get_or a.outputs i 0) 0 ≡ get_or (residues m bases a.steps) (get_or a.outputs i 0) 0
    first i h = values_keep (times_mod m) start a.steps _ (get_or a.outputs i 0) (omega (arith, outputs_low _ 1 a.outputs both.outputs_fine i h))

    second : (i : ℕ) → i < length b.outputs
        → get_or (residues m bases (pooled_steps a b)) (renumbered b.p (length a.steps) (get_or b.outputs i 0)) 0
        ≡ get_or (residues m bases b.steps) (get_or b.outputs i 0) 0
    second i h =
        pooled_value (times_mod m) b.p start a.steps b.steps (omega (arith, both.columns)) both.steps_fine' (get_or b.outputs i 0)
        (omega (arith, both.columns, outputs_low _ 1 b.outputs both.outputs_fine' i h))
