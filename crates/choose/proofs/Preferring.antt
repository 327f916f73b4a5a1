-- The preference between two judged files, which looks at the number of steps only of one that passes.
use mathlib.Core.Path.{◌≡◌, refl, ap₂}
use mathlib.Core.Bool.{cond}
use Prim.Native.Nat.{ℕ}
use Rattle.chain.specs.Tests.{◌≤?◌}
use Rattle.chain.specs.Verdict.{Verdict, fine, refused}
use Rattle.choose.specs.Choose.{better}
use Rattle.answers.specs.Answers.{Choice, first, second}
use Rattle.choose.specs.Answers.{verdict_of, count_of}
use Rattle.refusal.specs.declared.Refusal.{Refusal}
use Rattle.std.specs.Prelude.{Result}

abbrev pub better_of : Result ℕ Refusal → Result ℕ Refusal → Choice
better_of x y = better (verdict_of x) (verdict_of y) (count_of x) (count_of y)

-- only the lengths of files that pass count
pub same_better : (v w : Verdict) (m n m' n' : ℕ) → (v ≡ fine → m ≡ m') → (w ≡ fine → n ≡ n') → better v w m n ≡ better v w m' n'
unfolding better
same_better fine fine m n m' n' h k = ap₂ (λ (i j : ℕ). cond (i ≤? j) first second) (h refl) (k refl)
same_better fine (refused j t) m n m' n' h k = refl
same_better (refused k s) fine m n m' n' h l = refl
same_better (refused k s) (refused j t) m n m' n' h l = refl
