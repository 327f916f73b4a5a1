-- Where nothing is refused, as many pairs and outputs as the pool has are the pool, at the front of what was lent.
use mathlib.Core.Path.{◌≡◌, refl, sym, ap, ◌∙◌}
use mathlib.Core.List.{List}
use Prim.Native.Nat.{ℕ, ◌*◌, ◌/◌}
use lib.ListN.{length, take}
use Rattle.chain.specs.Verdict.{fine}
use Rattle.chain.specs.Chain.{pairs}
use Rattle.chain.proofs.Rules.{renewed}
use Rattle.chain.proofs.Pairs.{pairs_flat, length-flat}
use Rattle.chain.proofs.Written.{take-over}
use Rattle.pool.specs.Pool.{Part, pooled_steps, pooled_outputs, pool_rule, pool_steps, pool_outputs}

pub steps_left_lem : (a b : Part) (outputs : ℕ) (old : List ℕ) → pool_rule a b (length old / 2) outputs ≡ fine
    → pairs (take (2 * length (pooled_steps a b)) (pool_steps a b outputs old)) ≡ pooled_steps a b
unfolding pool_steps
steps_left_lem a b outputs old e =
    ap (λ (l : List ℕ). pairs (take (2 * length (pooled_steps a b)) l)) (sym (renewed _ _ old _ (sym e) refl))
    ∙ ap pairs (take-over _ _ old (length-flat (pooled_steps a b)))
    ∙ pairs_flat (pooled_steps a b)

pub outputs_left : (a b : Part) (pairs : ℕ) (old : List ℕ) → pool_rule a b pairs (length old) ≡ fine
    → take (length (pooled_outputs a b)) (pool_outputs a b pairs old) ≡ pooled_outputs a b
unfolding pool_outputs
outputs_left a b pairs old e =
    ap (take (length (pooled_outputs a b))) (sym (renewed _ _ old _ (sym e) refl)) ∙ take-over _ _ old refl
