-- Into slices for the longest chain of the layout 5 cannot come, so the verdict is that of the file alone.
use mathlib.Core.Path.{◌≡◌, ◌∙◌}
use mathlib.Core.List.{List, ◌∷◌}
use Prim.Native.Nat.{ℕ, ◌/◌, ◌≤◌}
use lib.ListN.{length}
use Rattle.chain.specs.Verdict.{fine, refused, done, refusal}
use Rattle.chain.specs.Chain.{most_payslips}
use Rattle.layout.specs.declared.Layout.{Layout}
use Rattle.layout.specs.File.{read_rule, read_answer, read_steps, read_outputs}
use Rattle.answers.specs.Answers.{counts_in}
use Rattle.answers.specs.declared.Counts.{Counts}
use Rattle.layout.proofs.Lent.{read_any}
use Rattle.reading.proofs.Told.{ChainTaken, taken, read_stops, read_passes}

-- a file that reads, with what it leaves in the two slices
pub record Good (L : Layout) (bytes steps outputs : List ℕ) (p q n : ℕ) : Type 0 where
  pub reads : fine ≡ read_rule L bytes L.limit most_payslips
  pub taken : ChainTaken L bytes steps outputs p q n

module _ (L : Layout) (bytes steps outputs : List ℕ) (hs : L.limit ≤ length steps / 2) (ho : most_payslips ≤ length outputs) where
  pub read_refused : (k s : ℕ) → refusal k s ≡ read_answer L bytes (length steps / 2) (length outputs) → refused k s ≡ read_rule L bytes L.limit most_payslips
  read_refused k s e = read_stops L bytes steps outputs k s e ∙ read_any L bytes _ _ hs ho

  pub read_good : (p q : ℕ) (c : Counts) → done (p ∷ q ∷ counts_in c) ≡ read_answer L bytes (length steps / 2) (length outputs) → (steps' outputs' : List ℕ)
      → steps' ≡ read_steps L bytes (length outputs) steps → outputs' ≡ read_outputs L bytes (length steps / 2) outputs
      → Good L bytes steps' outputs' p q c.steps
  read_good p q c is steps' outputs' es eo =
      record {
        reads = read_passes L bytes steps outputs p q c is ∙ read_any L bytes _ _ hs ho;
        taken = taken L bytes steps outputs p q c is steps' outputs' es eo;
      }
