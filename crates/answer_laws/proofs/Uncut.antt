-- No call answers more than eight values, so its words begin with all of them; a refusal has its place alone.
use mathlib.Core.Path.{refl}
use mathlib.Core.List.{List}
use Prim.Native.Nat.{ℕ}
use Rattle.chain.specs.Verdict.{Verdict, fine, refused, done, answer}
use Rattle.chain.specs.Chain.{counts}
use Rattle.answers.specs.Answers.{Choice, first, second, neither}
use Rattle.tell.specs.Told.{choice_answer, Uncut}
use Rattle.verify.specs.Verify.{verify_answer}
use Rattle.run.specs.Run.{run_answer}
use Rattle.pool.specs.Pool.{pool_answer}
use Rattle.packed.specs.Packed.{unpack_answer, pack_answer}
use Rattle.layout.specs.File.{extent_answer, write_answer, read_answer}
use Rattle.quote.specs.ByMethod.{ceiling_answer}
use Rattle.compile.specs.Compile.{compile_answer}
use Rattle.path.specs.Path.{path_answer}
use Rattle.answer_laws.specs.Uncut.{NothingCut}

whole : (v : Verdict) (vs : List ℕ) → Uncut (done vs) → Uncut (answer v vs)
unfolding answer
whole fine vs e = e
whole (refused n s) vs e = refl

chosen : (choice : Choice) → Uncut (choice_answer choice)
chosen first = refl
chosen second = refl
chosen (neither n s) = refl

pub nothing_cut : NothingCut
unfolding ceiling_answer compile_answer extent_answer write_answer read_answer verify_answer run_answer pool_answer unpack_answer pack_answer path_answer counts
nothing_cut =
    record {
      ceiling = λ p q amounts method k. whole _ _ refl;
      compile = λ p q amounts method k x y. whole _ _ refl;
      extent = λ L p q n. whole _ _ refl;
      write = λ L p steps outputs x. whole _ _ refl;
      read = λ L bytes x y. whole _ _ refl;
      check = λ p steps outputs amounts x. whole _ _ refl;
      run = λ p steps outputs m bases x y. whole _ _ refl;
      pool = λ a b x y. whole _ _ refl;
      unpack = λ p q bytes x. whole _ _ refl;
      pack = λ p q amounts x. whole _ _ refl;
      choose = chosen;
      path = λ p q amounts method k l m bases. whole _ _ refl;
      list = λ n. refl;
    }
