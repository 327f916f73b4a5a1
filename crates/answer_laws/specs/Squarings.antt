-- Squarings on their own (Req 05; Spec 2.7, 10.6): what compile, check, read, pool and run tell of a chain's steps where nothing is refused.
use Rattle.std.specs.Prelude.{◌≡◌, List, [], ◌∷◌, ℕ, ◌+◌, length}
use Rattle.chain.specs.Verdict.{fine, done}
use Rattle.chain.specs.Chain.{by, squarings_of, products_of, counts}
use Rattle.chain.specs.declared.Step.{Step}
use Rattle.verify.specs.Verify.{verify_rule, verify_answer}
use Rattle.run.specs.Run.{run_rule, run_answer}
use Rattle.pool.specs.Pool.{Part, pooled_steps, pool_rule, pool_answer}
use Rattle.layout.specs.declared.Layout.{Layout}
use Rattle.layout.specs.File.{columns_of, payslips_of, steps_of, read_rule, read_answer}
use Rattle.quote.specs.ByMethod.{chain_of}
use Rattle.compile.specs.Compile.{compile_rule, compile_answer}

pub record Squarings : Type 0 where
  -- a step is a squaring if its operands are one number, and another product if they are two
  pub equal : (a b : ℕ) → a ≡ b → counts (by a b ∷ []) ≡ 1 ∷ 1 ∷ 0 ∷ []
  pub unequal : (a b : ℕ) → (a ≡ b → ⊥) → counts (by a b ∷ []) ≡ 1 ∷ 0 ∷ 1 ∷ []
  -- the two add up to n
  pub adds_up : (steps : List Step) → squarings_of steps + products_of steps ≡ length steps
  -- compile tells them of the chain that it makes
  pub compiled : (p q : ℕ) (amounts : List ℕ) (method k pairs_lent outputs_lent : ℕ) → compile_rule p q amounts method k pairs_lent outputs_lent ≡ fine
      → compile_answer p q amounts method k pairs_lent outputs_lent ≡ done (counts (chain_of p q amounts method k).steps)
  -- check and run of the chain that they are lent
  pub checked : (p : ℕ) (steps : List Step) (outputs amounts : List ℕ) (scratch : ℕ) → verify_rule p steps outputs amounts scratch ≡ fine
      → verify_answer p steps outputs amounts scratch ≡ done (counts steps)
  pub ran : (p : ℕ) (steps : List Step) (outputs : List ℕ) (m : ℕ) (bases : List ℕ) (values_lent figures_lent : ℕ)
      → run_rule p steps outputs m bases values_lent figures_lent ≡ fine → run_answer p steps outputs m bases values_lent figures_lent ≡ done (counts steps)
  -- read of the chain in the file, after p and q
  pub read : (L : Layout) (bytes : List ℕ) (pairs_lent outputs_lent : ℕ) → read_rule L bytes pairs_lent outputs_lent ≡ fine
      → read_answer L bytes pairs_lent outputs_lent ≡ done (columns_of bytes ∷ payslips_of bytes ∷ counts (steps_of L bytes))
  -- pool of the pool, whose squarings are those of both parts
  pub pooled : (a b : Part) (pairs_lent outputs_lent : ℕ) → pool_rule a b pairs_lent outputs_lent ≡ fine
      → pool_answer a b pairs_lent outputs_lent ≡ done (counts (pooled_steps a b))
  pub both_parts : (a b : Part) → squarings_of (pooled_steps a b) ≡ squarings_of a.steps + squarings_of b.steps
