-- The eight words of the C interface hold all that any call answers (Req 05).
use Rattle.std.specs.Prelude.{List, [], ◌∷◌, ℕ}
use Rattle.chain.specs.Verdict.{done}
use Rattle.chain.specs.declared.Step.{Step}
use Rattle.answers.specs.Answers.{Choice}
use Rattle.tell.specs.Told.{choice_answer, Uncut}
use Rattle.verify.specs.Verify.{verify_answer}
use Rattle.run.specs.Run.{run_answer}
use Rattle.pool.specs.Pool.{Part, pool_answer}
use Rattle.packed.specs.Packed.{unpack_answer, pack_answer}
use Rattle.layout.specs.declared.Layout.{Layout}
use Rattle.layout.specs.File.{extent_answer, write_answer, read_answer}
use Rattle.quote.specs.ByMethod.{ceiling_answer}
use Rattle.compile.specs.Compile.{compile_answer}
use Rattle.path.specs.Path.{Lent, path_answer}

-- for each call, whatever it is given and lent
pub record NothingCut : Type 0 where
  pub ceiling : (p q : ℕ) (amounts : List ℕ) (method k : ℕ) → Uncut (ceiling_answer p q amounts method k)
  pub compile : (p q : ℕ) (amounts : List ℕ) (method k pairs_lent outputs_lent : ℕ) → Uncut (compile_answer p q amounts method k pairs_lent outputs_lent)
  pub extent : (L : Layout) (p q n : ℕ) → Uncut (extent_answer L p q n)
  pub write : (L : Layout) (p : ℕ) (steps : List Step) (outputs : List ℕ) (bytes_lent : ℕ) → Uncut (write_answer L p steps outputs bytes_lent)
  pub read : (L : Layout) (bytes : List ℕ) (pairs_lent outputs_lent : ℕ) → Uncut (read_answer L bytes pairs_lent outputs_lent)
  pub check : (p : ℕ) (steps : List Step) (outputs amounts : List ℕ) (scratch : ℕ) → Uncut (verify_answer p steps outputs amounts scratch)
  pub run : (p : ℕ) (steps : List Step) (outputs : List ℕ) (m : ℕ) (bases : List ℕ) (values_lent figures_lent : ℕ)
      → Uncut (run_answer p steps outputs m bases values_lent figures_lent)
  pub pool : (a b : Part) (pairs_lent outputs_lent : ℕ) → Uncut (pool_answer a b pairs_lent outputs_lent)
  pub unpack : (p q : ℕ) (bytes : List ℕ) (amounts_lent : ℕ) → Uncut (unpack_answer p q bytes amounts_lent)
  pub pack : (p q : ℕ) (amounts : List ℕ) (bytes_lent : ℕ) → Uncut (pack_answer p q amounts bytes_lent)
  pub choose : (choice : Choice) → Uncut (choice_answer choice)
  pub path : (p q : ℕ) (amounts : List ℕ) (method k : ℕ) (l : Lent) (m : ℕ) (bases : List ℕ) → Uncut (path_answer p q amounts method k l m bases)
  pub list : (length : ℕ) → Uncut (done (length ∷ []))
