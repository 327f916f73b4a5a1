-- What is found before either file decides alone; else the choice depends on the two verdicts, and on the counts only where both files pass.
use mathlib.Core.Path.{◌≡◌, sym, ap, ap₂, ◌∙◌}
use mathlib.Core.List.{List}
use Prim.Native.Nat.{ℕ}
use Rattle.chain.specs.Verdict.{Verdict, fine, refused}
use Rattle.chain.proofs.Rules.{then_fine, refuse_if_fine, neither as no_test, not_lt}
use Rattle.layout.specs.Layout.{edition1}
use Rattle.layout.specs.File.{length_of}
use Rattle.choose.specs.Choose.{file_rule, better, unless, choose_rule, choice}
use Rattle.answers.specs.Answers.{neither}
use Rattle.choose.specs.Answers.{count_of}
use Rattle.choose.specs.Inner.{Enough, FileJudged}
use Rattle.refusal.specs.declared.Refusal.{Refusal}
use Rattle.std.specs.Prelude.{Result}
use Rattle.choose.proofs.Preferring.{better_of, same_better}

-- enough is lent for any file
pub enough : (p q : ℕ) (amounts : List ℕ) (x y z : ℕ) → fine ≡ choose_rule p q amounts x y z → Enough x y z
unfolding choose_rule
enough p q amounts x y z e =
    let t = no_test _ _ (refuse_if_fine _ 5 0 (then_fine _ _ (sym e)).1) in
    let u = no_test _ _ t.1 in
    record { pairs_enough = not_lt _ _ t.0; outputs_enough = not_lt _ _ u.0; numbers_enough = not_lt _ _ u.1 }

module _ (p q : ℕ) (amounts a b : List ℕ) (x y z : ℕ) where
  pub choice_refused : (k s : ℕ) → refused k s ≡ choose_rule p q amounts x y z → neither k s ≡ choice p q amounts a b x y z
  unfolding choice unless
  choice_refused k s e = rw (← e)

  pub choice_made : (i j : Result ℕ Refusal) → fine ≡ choose_rule p q amounts x y z
      → FileJudged p q amounts a i → FileJudged p q amounts b j
      → better_of i j ≡ choice p q amounts a b x y z
  unfolding choice unless
  choice_made i j e f g =
      ap₂ (λ (v w : Verdict). better v w (count_of i) (count_of j)) f.verdict g.verdict
      ∙ same_better _ _ _ _ _ _ f.count g.count
      ∙ ap (λ (v : Verdict). unless v (better (file_rule p q amounts a) (file_rule p q amounts b) (length_of edition1 a) (length_of edition1 b))) e
