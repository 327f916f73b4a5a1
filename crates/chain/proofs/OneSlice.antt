-- A call that is lent one slice: what it is given is judged, then 5 tells a slice that is too short, and then the slice is filled. What it answers and
-- leaves follows from the verdict.
use mathlib.Core.Path.{◌≡◌, refl, sym, ap, ◌∙◌}
use mathlib.Core.List.{List}
use Prim.Native.Nat.{ℕ, ◌≤◌, ◌<◌}
use lib.ListN.{length, take}
use Rattle.chain.specs.Tests.{◌<?◌}
use Rattle.chain.specs.Verdict.{Verdict, fine, refused, ◌then◌, refuse_if, done, refusal, answer, on_fine}
use Rattle.chain.specs.Written.{over}
use Rattle.chain.proofs.Rules.{stop, judging, answer_refused, answer_done, kept, renewed}
use Rattle.chain.proofs.Written.{take-over}

-- the verdict, by that on what is given and by the room that is lent and needed
module _ (given : Verdict) (lent need : ℕ) where
  pub given_refused : (n s : ℕ) → refused n s ≡ given → refused n s ≡ (given then refuse_if (lent <? need) 5 0)
  given_refused n s e = stop _ _ n s e

  module _ (ok : fine ≡ given) where
    pub too_short : lent < need → refused 5 0 ≡ (given then refuse_if (lent <? need) 5 0)
    too_short h = search judging depth 8

    pub long_enough : need ≤ lent → fine ≡ (given then refuse_if (lent <? need) 5 0)
    long_enough h = search judging depth 8

-- what is answered and left, by the verdict
module _ (v : Verdict) (vs new old : List ℕ) where
  pub refused_leaves : (n s : ℕ) → refused n s ≡ v → (refusal n s ≡ answer v vs) × (old ≡ on_fine v new old)
  refused_leaves n s e = (answer_refused v vs n s e, kept v new old n s e)

  pub done_leaves : (w : List ℕ) → fine ≡ v → w ≡ new → (done vs ≡ answer v vs) × (w ≡ on_fine v new old)
  done_leaves w e d = (answer_done v vs e, renewed v new old w e d)

-- what was written over the slice, taken out again
pub taken_out : (v : Verdict) (n : ℕ) (l old : List ℕ) → v ≡ fine → length l ≡ n → take n (on_fine v (over l old) old) ≡ l
taken_out v n l old ok e = ap (take n) (sym (renewed v (over l old) old (over l old) (sym ok) refl)) ∙ take-over n l old e
