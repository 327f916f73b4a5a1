-- Reading, the sizes and the check refuse in turn; a file that reads stands at the front of the scratch, so the check of the scratch is the check of the file.
use mathlib.Core.Path.{◌≡◌, sym, ap, ap₂, ◌∙◌}
use mathlib.Core.List.{List}
use mathlib.Core.Bool.{true}
use mathlib.Core.Logic.{◌⊎◌, inl, inr}
use Prim.Native.Nat.{ℕ, ◌*◌, ◌/◌, ◌≤◌}
use native.Mathlib.Omega.{arith}
use lib.ListN.{length, take}
use Rattle.chain.specs.Tests.{◌≠?◌, ◌or◌}
use Rattle.chain.specs.Verdict.{refused, Answer, done}
use Rattle.chain.specs.Chain.{most_payslips, pairs}
use Rattle.chain.specs.declared.Step.{Step}
use Rattle.chain.proofs.Rules.{not_fine, stop, pass, refuse_yes, refuse_no, or_left, or_right, or_none, ne_yes, ne_no}
use Rattle.chain.proofs.Told.{verdict_in, told}
use Rattle.chain.proofs.Pairs.{pairs_flat}
use Rattle.verify.specs.Verify.{verify_rule, verify_answer}
use Rattle.answers.specs.Answers.{chain_in}
use Rattle.answers.specs.declared.ReadChain.{ReadChain}
use Rattle.layout.specs.Layout.{edition1}
use Rattle.layout.specs.File.{columns_of, payslips_of, steps_of, outputs_of, read_rule, read_answer, read_steps, read_outputs}
use Rattle.layout.proofs.Readable.{columns_low}
use Rattle.layout.proofs.OneFile.{length_steps_of}
use Rattle.reading.proofs.Good.{Good, read_good}
use Rattle.choose.specs.Choose.{most_scratch, file_rule}
use Rattle.choose.specs.Inner.{Enough, FileJudged}
use Rattle.refusal.specs.declared.Refusal.{Refusal}
use Rattle.refusal.specs.Reasons.{number_of}
use Rattle.std.specs.Prelude.{Err}
use Rattle.choose.proofs.Lent.{verify_any}

-- what a refusal says of the number of steps, which is nothing
pub refusal_says : (p q : ℕ) (amounts bytes : List ℕ) (r : Refusal) → refused (number_of r.reason) r.place ≡ file_rule p q amounts bytes
    → FileJudged p q amounts bytes (Err r)
refusal_says p q amounts bytes r e = record { verdict = e; count = λ f. absurd (not_fine (e ∙ f)) }

-- a file that does not read
pub unread : (p q : ℕ) (amounts bytes : List ℕ) (k s : ℕ) → refused k s ≡ read_rule edition1 bytes edition1.limit most_payslips
    → refused k s ≡ file_rule p q amounts bytes
unfolding file_rule
unread p q amounts bytes k s e = stop _ _ k s e

-- what a file that was read tells, where enough is lent for any
module _ (bytes steps outputs : List ℕ) {numbers : ℕ} (lent : Enough (length steps / 2) (length outputs) numbers) where
  pub read_file : (r : ReadChain) → done (chain_in r) ≡ read_answer edition1 bytes (length steps / 2) (length outputs) → (steps' outputs' : List ℕ)
      → steps' ≡ read_steps edition1 bytes (length outputs) steps → outputs' ≡ read_outputs edition1 bytes (length steps / 2) outputs
      → Good edition1 bytes steps' outputs' r.p r.q r.counts.steps
  read_file r e steps' outputs' es eo =
      read_good edition1 bytes steps outputs lent.pairs_enough lent.outputs_enough r.p r.q r.counts e steps' outputs' es eo

-- the rules after reading, for a sheet of p columns and q payslips
module _ (bytes steps outputs amounts : List ℕ) (p q columns payslips n : ℕ) (t : Good edition1 bytes steps outputs columns payslips n) where
  pub other_sizes : (columns ≡ p → ⊥) ⊎ (payslips ≡ q → ⊥) → refused 14 0 ≡ file_rule p q amounts bytes
  unfolding file_rule
  other_sizes differ = pass _ _ _ t.reads (stop _ _ 14 0 (refuse_yes _ 14 0 (test differ)))
    where
      test : (columns ≡ p → ⊥) ⊎ (payslips ≡ q → ⊥) → (columns_of bytes ≠? p or payslips_of bytes ≠? q) ≡ true
      test (inl d) = or_left _ _ (ne_yes _ _ (λ e. d (t.taken.columns ∙ e)))
      test (inr d) = or_right _ _ (ne_yes _ _ (λ e. d (t.taken.payslips ∙ e)))

  module _ (ep : columns ≡ p) (eq : payslips ≡ q) (scratch : ℕ) (room : most_scratch ≤ scratch) (w : Answer)
      (answered : w ≡ verify_answer p (pairs (take (2 * n) steps)) (take q outputs) amounts scratch) where
    pub held : verdict_in w ≡ file_rule p q amounts bytes
    unfolding file_rule verify_answer
    held =
        let l = length_steps_of edition1 bytes in
        let low = columns_low bytes in
        let e = t.taken.columns in
        let f = t.taken.long in
        let g = t.taken.few in
        let es : pairs (take (2 * n) steps) ≡ steps_of edition1 bytes = ap pairs t.taken.steps_front ∙ pairs_flat (steps_of edition1 bytes) in
        let eo : take q outputs ≡ outputs_of edition1 bytes = ap (λ (k : ℕ). take k outputs) (sym eq) ∙ t.taken.outputs_front in
        let same-columns = ne_no _ _ (sym t.taken.columns ∙ ep) in
        let same-payslips = ne_no _ _ (sym t.taken.payslips ∙ eq) in
        pass _ _ _ t.reads
        (pass _ _ _ (refuse_no _ 14 0 (or_none _ _ same-columns same-payslips))
        (told _ _ _ answered
        ∙ ap₂ (λ (x : List Step) (y : List ℕ). verify_rule p x y amounts scratch) es eo
        ∙ verify_any p (steps_of edition1 bytes) (outputs_of edition1 bytes) amounts scratch most_scratch (omega arith) (omega arith)))
