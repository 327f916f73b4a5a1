-- From the answer of `read` its verdict and the header's numbers are read back; where it is done, the chain stands at the front of both slices.
use mathlib.Core.Path.{◌≡◌, refl, sym, ap, ◌∙◌}
use mathlib.Core.List.{List, ◌∷◌}
use Prim.Native.Nat.{ℕ, ◌*◌, ◌/◌, ◌≤◌}
use native.Mathlib.Omega.{arith}
use lib.ListN.{length, get_or, take, drop}
use Rattle.chain.specs.Verdict.{fine, refused, done, refusal}
use Rattle.chain.specs.Written.{over}
use Rattle.chain.specs.Chain.{flat, counts}
use Rattle.chain.proofs.Rules.{renewed}
use Rattle.chain.proofs.Told.{told, told_values_lem}
use Rattle.chain.proofs.Pairs.{length-flat}
use Rattle.chain.proofs.Written.{take-over, over-length}
use Rattle.layout.specs.declared.Layout.{Layout}
use Rattle.layout.specs.File.{columns_of, payslips_of, length_of, steps_of, outputs_of, read_rule, read_answer, read_steps, read_outputs}
use Rattle.layout.proofs.Readable.{readable}
use Rattle.layout.proofs.OneFile.{length_steps_of, length-outputs_of}
use Rattle.answers.specs.Answers.{counts_in}
use Rattle.answers.specs.declared.Counts.{Counts}

-- bytes that were read: their p, q and n, and their chain at the front of the two slices
pub record ChainTaken (L : Layout) (bytes steps outputs : List ℕ) (p q n : ℕ) : Type 0 where
  pub columns : p ≡ columns_of bytes
  pub payslips : q ≡ payslips_of bytes
  pub long : n ≡ length_of L bytes
  pub few : n ≤ L.limit
  pub steps_room : 2 * n ≤ length steps
  pub outputs_room : q ≤ length outputs
  pub steps_front : take (2 * n) steps ≡ flat (steps_of L bytes)
  pub outputs_front : take q outputs ≡ outputs_of L bytes

module _ (L : Layout) (bytes steps outputs : List ℕ) where
  pub read_stops : (k s : ℕ) → refusal k s ≡ read_answer L bytes (length steps / 2) (length outputs) → refused k s ≡ read_rule L bytes (length steps / 2) (length outputs)
  unfolding read_answer
  read_stops k s answered = told _ _ _ answered

  module _ (p q : ℕ) (c : Counts) (answered : done (p ∷ q ∷ counts_in c) ≡ read_answer L bytes (length steps / 2) (length outputs)) where
    pub read_passes : fine ≡ read_rule L bytes (length steps / 2) (length outputs)
    unfolding read_answer
    read_passes = told _ _ _ answered

    abbrev n : ℕ
    n = c.steps

    sizes : ◌≡◌ {A = List ℕ} (p ∷ q ∷ counts_in c) (columns_of bytes ∷ payslips_of bytes ∷ counts (steps_of L bytes))
    unfolding read_answer
    sizes = told_values_lem _ _ _ answered

    pub read_counts : counts_in c ≡ counts (steps_of L bytes)
    read_counts = ap (drop 2) sizes

    module _ (steps' outputs' : List ℕ) (es : steps' ≡ read_steps L bytes (length outputs) steps)
        (eo : outputs' ≡ read_outputs L bytes (length steps / 2) outputs) where
      new_steps : steps' ≡ over (flat (steps_of L bytes)) steps
      unfolding read_steps
      new_steps = es ∙ sym (renewed _ _ steps _ read_passes refl)

      new_outputs : outputs' ≡ over (outputs_of L bytes) outputs
      unfolding read_outputs
      new_outputs = eo ∙ sym (renewed _ _ outputs _ read_passes refl)

      pub taken : ChainTaken L bytes steps' outputs' p q n
      unfolding counts
      taken =
          let ok = readable L bytes _ _ (sym read_passes) in
          let ep : p ≡ columns_of bytes = ap (λ (l : List ℕ). get_or l 0 0) sizes in
          let eq : q ≡ payslips_of bytes = ap (λ (l : List ℕ). get_or l 1 0) sizes in
          let en : n ≡ length_of L bytes = ap (λ (l : List ℕ). get_or l 2 0) sizes ∙ length_steps_of L bytes in
          let ls : length (flat (steps_of L bytes)) ≡ 2 * n = omega (arith, length-flat (steps_of L bytes), length_steps_of L bytes) in
          let lo : length (outputs_of L bytes) ≡ q = omega (arith, length-outputs_of L bytes) in
          let room : 2 * n ≤ length steps = omega (arith, ok.pairs_room) in
          let places : q ≤ length outputs = omega (arith, ok.outputs_room) in
          record {
            columns = ep;
            payslips = eq;
            long = en;
            few = omega (arith, ok.few);
            steps_room = omega (arith, ap length new_steps, over-length (flat (steps_of L bytes)) steps (omega arith));
            outputs_room = omega (arith, ap length new_outputs, over-length (outputs_of L bytes) outputs (omega arith));
            steps_front = ap (take (2 * n)) new_steps ∙ take-over (2 * n) (flat (steps_of L bytes)) steps ls;
            outputs_front = ap (take q) new_outputs ∙ take-over q (outputs_of L bytes) outputs lo;
          }
