-- The run accepts a legal chain by its modulus and bases alone, and so it accepts the pool exactly if it accepts the parts; the pool's run gives their figures.
use mathlib.Core.Path.{◌≡◌, ap, sym}
use mathlib.Core.Logic.{◌↔◌}
use mathlib.Core.List.{List, ◌++◌}
use Prim.Native.Nat.{ℕ, ◌<◌}
use native.Mathlib.Nat.{le_refl}
use native.Mathlib.Omega.{arith}
use lib.ListN.{length, get_or}
use Rattle.chain.specs.Verdict.{fine}
use Rattle.chain.specs.Written.{over}
use Rattle.chain.specs.Chain.{Legal}
use Rattle.chain.proofs.Rules.{renewed}
use Rattle.chain.proofs.Legal.{legal_parts, chain_parts}
use Rattle.chain.proofs.Limits.{outputs_low}
use Rattle.run.specs.Run.{run_rule, run_figures}
use Rattle.run.proofs.Runnable.{runnable, runs_fine}
use Rattle.pool.specs.Pool.{Part, pooled_steps, pooled_outputs, poolable_rule}
use Rattle.pool.proofs.Poolable.{poolable}
use Rattle.pool_laws.specs.Pooled.{pooled, Runs, figures_of}
use Rattle.pool_laws.proofs.Legal.{pool_legal}
use Rattle.pool_laws.proofs.Figures.{pool_figures}

-- what the run asks of the modulus and the bases
record Residual (p m : ℕ) (bases : List ℕ) : Type 0 where
  modulus : 0 < m
  bases_are_p : length bases ≡ p
  bases_low : (c : ℕ) → c < p → get_or bases c 0 < m

runs_bases : (x : Part) (m : ℕ) (bases : List ℕ) → Legal x.p x.steps x.outputs → Runs x m bases ↔ Residual x.p m bases
runs_bases x m bases legal = (
  λ runs.
      let r = runnable x.p x.steps x.outputs m bases _ _ (runs _ _ (le_refl _) (le_refl _)) in
      record { modulus = r.modulus; bases_are_p = r.bases_are_p; bases_low = r.bases_low },
  λ r values figures room places.
      let l = legal_parts x.p x.steps x.outputs legal in
      let parts = chain_parts x.p x.steps x.outputs l.chain in
      runs_fine x.p x.steps x.outputs m bases values figures
      (record {
        sizes = l.sizes;
        modulus = r.modulus;
        bases_are_p = r.bases_are_p;
        bases_low = r.bases_low;
        steps_fine = parts.0;
        outputs_within = λ i h. outputs_low _ 1 x.outputs parts.1 i h;
        values_fit = omega arith;
        figures_fit = places;
      })
      l.few,
)

pub pool_runs : (a b : Part) (m : ℕ) (bases : List ℕ) → poolable_rule a b ≡ fine → Runs (pooled a b) m bases ↔ (Runs a m bases × Runs b m bases)
pool_runs a b m bases e =
    let both = poolable a b e in
    let whole = runs_bases (pooled a b) m bases (pool_legal a b e) in
    let first = runs_bases a m bases both.legal in
    let second = runs_bases b m bases both.legal' in (
      λ runs. (first.1 (whole.0 runs), second.1 (rw both.columns at (whole.0 runs))),
      λ runs. whole.1 (first.0 runs.0),
    )

pub pool_run_figures : (a b : Part) (m : ℕ) (bases : List ℕ) (values : ℕ) (old : List ℕ) → poolable_rule a b ≡ fine
    → run_rule a.p (pooled_steps a b) (pooled_outputs a b) m bases values (length old) ≡ fine
    → run_figures a.p (pooled_steps a b) (pooled_outputs a b) m bases values old ≡ over (figures_of a m bases ++ figures_of b m bases) old
unfolding run_figures
pool_run_figures a b m bases values old e runs =
    let r = runnable a.p (pooled_steps a b) (pooled_outputs a b) m bases values (length old) runs in
    sym (renewed _ _ old _ (sym runs) (ap (λ (l : List ℕ). over l old) (sym (pool_figures a b m bases e r.bases_are_p))))
