-- 5 is the only rule that looks at what is lent, and it finds nothing where the most that a file can need is lent.
use mathlib.Core.Path.{◌≡◌, refl, sym, ap, ◌∙◌}
use mathlib.Core.Bool.{Bool, false}
use mathlib.Core.List.{List}
use Prim.Native.Nat.{ℕ, ◌≤◌}
use native.Mathlib.Omega.{arith}
use Rattle.chain.specs.Tests.{◌<?◌, ◌or◌}
use Rattle.chain.specs.Verdict.{Verdict, fine, refused, ◌then◌, refuse_if}
use Rattle.chain.specs.Chain.{most_payslips, length_rule}
use Rattle.chain.proofs.Rules.{lt_no, or_none}
use Rattle.chain.proofs.Sizes.{length-fits}
use Rattle.layout.specs.declared.Layout.{Layout}
use Rattle.layout.specs.File.{length_of, payslips_of, read_rule}
use Rattle.layout.proofs.Readable.{payslips_low}

-- a rule after another need only be known where that one finds nothing
pub then_under : (v a b : Verdict) → (v ≡ fine → a ≡ b) → (v then a) ≡ (v then b)
unfolding ◌then◌
then_under fine a b h = h refl
then_under (refused n s) a b h = refl

pub then_same : (a b c : Verdict) → a ≡ b → (a then c) ≡ (b then c)
then_same a b c e = ap (λ (v : Verdict). v then c) e

pub same_test : (t u : Bool) (n s : ℕ) → t ≡ u → refuse_if t n s ≡ refuse_if u n s
same_test t u n s e = ap (λ (b : Bool). refuse_if b n s) e

-- where the most that a file can need is lent, 5 cannot come
pub read_any : (L : Layout) (bytes : List ℕ) (x y : ℕ) → L.limit ≤ x → most_payslips ≤ y → read_rule L bytes x y ≡ read_rule L bytes L.limit most_payslips
unfolding read_rule
read_any L bytes x y hx hy =
    then_under _ _ _ (λ a. then_under _ _ _ (λ b. then_under _ _ _ (λ few. then_under _ _ _ (λ d. then_same _ _ _ (rooms few)))))
  where
    enough : (x y : ℕ) → L.limit ≤ x → most_payslips ≤ y → length_of L bytes ≤ L.limit → (x <? length_of L bytes or y <? payslips_of bytes) ≡ false
    enough x y hx hy low = or_none _ _ (lt_no x (length_of L bytes) (omega arith)) (lt_no y (payslips_of bytes) (omega (arith, payslips_low bytes)))

    rooms : length_rule L.limit (length_of L bytes) ≡ fine
        → refuse_if (x <? length_of L bytes or y <? payslips_of bytes) 5 0 ≡ refuse_if (L.limit <? length_of L bytes or most_payslips <? payslips_of bytes) 5 0
    rooms few =
        let low = length-fits L.limit (length_of L bytes) few in
        same_test _ _ 5 0 (enough x y hx hy low ∙ sym (enough L.limit most_payslips (omega arith) (omega arith) low))
