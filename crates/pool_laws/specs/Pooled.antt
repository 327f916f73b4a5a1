-- What the laws of pools speak of: the pool as a chain, that a chain passes the check and the run, and its figures.
use Rattle.std.specs.Prelude.{◌≡◌, List, ℕ, ◌+◌, ◌≤◌, length}
use Rattle.chain.specs.Verdict.{fine}
use Rattle.chain.specs.Chain.{pick}
use Rattle.run.specs.Run.{residues, run_rule}
use Rattle.verify.specs.Verify.{scratch_size, verify_rule}
use Rattle.pool.specs.Pool.{Part, part, pooled_steps, pooled_outputs}

-- the pool as a chain
abbrev pub pooled : Part → Part → Part
pooled a b = part a.p (pooled_steps a b) (pooled_outputs a b)

-- the chain passes the check against the amounts, with whatever scratch is long enough
abbrev pub Passes : Part → List ℕ → Type 0
Passes x amounts = (scratch : ℕ) → scratch_size x.p (length x.steps) ≤ scratch → verify_rule x.p x.steps x.outputs amounts scratch ≡ fine

-- the run accepts the chain, with slices long enough
abbrev pub Runs : Part → ℕ → List ℕ → Type 0
Runs x m bases = (values figures : ℕ) → x.p + length x.steps + 1 ≤ values → length x.outputs ≤ figures
    → run_rule x.p x.steps x.outputs m bases values figures ≡ fine

-- its figures
abbrev pub figures_of : Part → ℕ → List ℕ → List ℕ
figures_of x m bases = pick (residues m bases x.steps) x.outputs
