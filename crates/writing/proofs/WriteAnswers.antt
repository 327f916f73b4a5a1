-- The write rule is two rules in a row, the shape's and the rest's, each judged by one call; whichever refuses first is the answer, and else the file is over the bytes.
use mathlib.Core.Path.{◌≡◌, refl, sym, ap, ◌∙◌}
use mathlib.Core.List.{List, [], ◌∷◌}
use Prim.Native.Nat.{ℕ, ◌/◌}
use lib.ListN.{length}
use Rattle.chain.specs.Tests.{◌<?◌}
use Rattle.chain.specs.Verdict.{Verdict, fine, refused, ◌then◌, refuse_if, done, refusal}
use Rattle.chain.specs.Written.{over}
use Rattle.chain.specs.Chain.{pairs, shape_rule, chain_rule}
use Rattle.chain.proofs.Rules.{stop, pass, then_assoc, answer_refused, answer_done, kept, renewed}
use Rattle.chain.proofs.Pairs.{length_pairs}
use Rattle.layout.specs.declared.Layout.{Layout}
use Rattle.layout.specs.declared.Extent.{Extent}
use Rattle.layout.specs.File.{byte_count, file_of, held_rule, write_rule, write_answer, write_bytes}
use Rattle.layout.specs.Inner.{SoundLayout, Sized, extent_of}
use Rattle.layout.proofs.Held.{shape_sized}
use Rattle.writing.specs.Inner.{ToWrite, Wrote}

module _ (L : Layout) (p : ℕ) (l o old : List ℕ) where
  abbrev q : ℕ
  q = length o

  abbrev n : ℕ
  n = length l / 2

  rest : ℕ → Verdict
  rest count = chain_rule p (pairs l) o then refuse_if (length old <? count) 5 0

  in_order : (count : ℕ) → count ≡ byte_count L p q n → write_rule L p (pairs l) o (length old) ≡ (shape_rule L.limit p q n then rest count)
  unfolding write_rule held_rule rest
  in_order count is =
      let v = chain_rule p (pairs l) o in
      then_assoc _ v _
      ∙ ap (λ (k : ℕ). shape_rule L.limit p q k then v then refuse_if (length old <? byte_count L p q k) 5 0) (length_pairs l)
      ∙ ap (λ (k : ℕ). shape_rule L.limit p q n then v then refuse_if (length old <? k) 5 0) (sym is)

  -- the answer, by the verdict
  stopped : (k s : ℕ) → refused k s ≡ write_rule L p (pairs l) o (length old) → Wrote L p l o old (refusal k s) old
  unfolding write_answer write_bytes
  stopped k s v = record { answered = answer_refused _ _ k s v; left = kept _ _ old k s v }

  went : (count : ℕ) (new : List ℕ) → fine ≡ write_rule L p (pairs l) o (length old) → count ≡ byte_count L p q n
      → new ≡ over (file_of L p (pairs l) o) old → Wrote L p l o old (done (count ∷ [])) new
  unfolding write_answer write_bytes
  went count new v is en =
      record {
        answered = ap (λ (k : ℕ). done (k ∷ [])) (is ∙ ap (byte_count L p q) (sym (length_pairs l))) ∙ answer_done _ _ v;
        left = renewed _ _ old _ v en;
      }

  pub shape_refused : (k s : ℕ) → refused k s ≡ shape_rule L.limit p q n → Wrote L p l o old (refusal k s) old
  shape_refused k s told = stopped k s (stop _ _ k s told ∙ sym (in_order (byte_count L p q n) refl))

  module _ (ok : fine ≡ shape_rule L.limit p q n) where
    pub sized : Sized L p q n
    sized = shape_sized L p q n (sym ok)

    module _ (count : ℕ) (is : count ≡ byte_count L p q n) where
      pub rest_refused : (k s : ℕ) → refused k s ≡ (chain_rule p (pairs l) o then refuse_if (length old <? count) 5 0) → Wrote L p l o old (refusal k s) old
      unfolding rest
      rest_refused k s told = stopped k s (pass _ _ _ ok told ∙ sym (in_order count is))

      module _ (rest-ok : fine ≡ (chain_rule p (pairs l) o then refuse_if (length old <? count) 5 0)) where
        pub passed : fine ≡ write_rule L p (pairs l) o (length old)
        unfolding rest
        passed = pass _ _ _ ok rest-ok ∙ sym (in_order count is)

        pub to_write : SoundLayout L → (s : Extent) → s ≡ extent_of L p q n → ToWrite L s l o (length old)
        to_write sound s e =
            record {
              sound = sound;
              extent = e ∙ ap (λ (k : ℕ). extent_of L k q n) (sym (ap (λ (x : Extent). x.p) e));
              accepted = ap (λ (x : Extent). write_rule L x.p (pairs l) o (length old)) e ∙ sym passed;
            }

        pub all_written : (new : List ℕ) → new ≡ over (file_of L p (pairs l) o) old → Wrote L p l o old (done (count ∷ [])) new
        all_written new en = went count new passed is en
