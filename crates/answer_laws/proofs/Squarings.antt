-- An answer whose rule finds nothing is done, with the counts that its definition names.
use mathlib.Core.Path.{◌≡◌, refl, sym, ◌∙◌}
use mathlib.Core.List.{List, [], ◌∷◌}
use Prim.Native.Nat.{ℕ}
use Rattle.chain.specs.Verdict.{Verdict, fine, done, answer}
use Rattle.chain.specs.Chain.{by}
use Rattle.chain.proofs.Rules.{answer_done}
use Rattle.chain.proofs.Squarings.{adds_up, counts_are, one_equal, one_unequal, squarings_one}
use Rattle.verify.specs.Verify.{verify_answer}
use Rattle.run.specs.Run.{run_answer}
use Rattle.pool.specs.Pool.{pool_answer}
use Rattle.pool.proofs.Squarings.{squarings_pooled}
use Rattle.layout.specs.File.{read_answer}
use Rattle.compile.specs.Compile.{compile_answer}
use Rattle.answer_laws.specs.Squarings.{Squarings}

answered : {v : Verdict} {vs : List ℕ} → v ≡ fine → answer v vs ≡ done vs
answered e = sym (answer_done _ _ (sym e))

pub squarings : Squarings
unfolding compile_answer verify_answer run_answer read_answer pool_answer
squarings =
    record {
      equal = λ a b e. sym (counts_are (by a b ∷ []) 1 1 refl (one_equal a b e ∙ sym (squarings_one (by a b))));
      unequal = λ a b ne. sym (counts_are (by a b ∷ []) 1 0 refl (one_unequal a b ne ∙ sym (squarings_one (by a b))));
      adds_up = adds_up;
      compiled = λ p q amounts method k x y. answered;
      checked = λ p steps outputs amounts x. answered;
      ran = λ p steps outputs m bases x y. answered;
      read = λ L bytes x y. answered;
      pooled = λ a b x y. answered;
      both_parts = squarings_pooled;
    }
