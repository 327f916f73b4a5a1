-- What numbers are refused under is the number given, whatever the limit.
use mathlib.Core.Path.{◌≡◌, refl, ap, ◌∙◌}
use mathlib.Core.Bool.{Bool, true, false}
use mathlib.Core.List.{List, [], ◌∷◌}
use Prim.Native.Nat.{ℕ, suc}
use Rattle.chain.specs.Tests.{◌<?◌}
use Rattle.chain.specs.Verdict.{Verdict, fine, refused, ◌then◌, refuse_if}
use Rattle.chain.specs.Chain.{limit_rule}
use Rattle.chain.proofs.Rules.{not_fine}

refused_under : Verdict → ℕ
refused_under fine = 0
refused_under (refused n s) = n

pub named : (number most i : ℕ) (l : List ℕ) (n s : ℕ) → refused n s ≡ limit_rule number most i l → n ≡ number
unfolding ◌then◌ refuse_if refused_under
named number most i [] n s e = absurd (not_fine e)
named number most i (x ∷ l) n s e = by_test (most <? x) refl (named number most (suc i) l n s)
  where
    by_test : (t : Bool) → most <? x ≡ t → (refused n s ≡ limit_rule number most (suc i) l → n ≡ number) → n ≡ number
    by_test true f later = ap refused_under (e ∙ ap (λ (u : Bool). refuse_if u number i then limit_rule number most (suc i) l) f)
    by_test false f later = later (e ∙ ap (λ (u : Bool). refuse_if u number i then limit_rule number most (suc i) l) f)
