-- The verdict on a file that is to be listed is its length's, then reading's, then the columns', each told by the call that finds it.
use mathlib.Core.Path.{◌≡◌, sym, ap, ap₂, ◌∙◌}
use mathlib.Core.List.{List, ◌∷◌}
use Prim.Native.Nat.{ℕ, ◌+◌, ◌*◌, ◌/◌, ◌≤◌, ◌<◌}
use native.Mathlib.Omega.{arith}
use lib.ListN.{length, take}
use lib.Seq.{length-take-le}
use Rattle.chain.specs.Verdict.{Verdict, fine, refused, done, refusal, answer}
use Rattle.chain.specs.Chain.{most_columns, most_payslips, pairs, steps_rule, outputs_rule, counts}
use Rattle.chain.specs.declared.Step.{Step}
use Rattle.chain.proofs.Rules.{stop, pass, refuse_yes, refuse_no, lt_yes, lt_no, answer_refused, answer_done, not_fine}
use Rattle.chain.proofs.Legal.{chain_parts}
use Rattle.chain.specs.Inner.{ChainSound}
use Rattle.chain.proofs.Pairs.{length_pairs, pairs_flat}
use Rattle.verify.specs.Verify.{exponents_rule}
use Rattle.layout.specs.Layout.{edition1}
use Rattle.layout.specs.File.{longest_file, columns_of, payslips_of, steps_of, outputs_of, read_rule, read_answer, read_steps, read_outputs}
use Rattle.layout.proofs.Readable.{readable, columns_low}
use Rattle.reading.proofs.Good.{Good, read_good}
use Rattle.answers.specs.Answers.{chain_in}
use Rattle.answers.specs.declared.ReadChain.{ReadChain}
use Rattle.listing.specs.Listing.{amount_of, listing_rule}
use Rattle.listing.specs.Inner.{TableHolds, AmountsTold, sizes_of, FileRoom}
use Rattle.listing.proofs.Tables.{at_outputs}

-- the answer to a refusal, and what it says of a table, which is nothing
pub listing_refused : (bytes table : List ℕ) (k s : ℕ) → refused k s ≡ listing_rule bytes
    → AmountsTold (refusal k s) (answer (listing_rule bytes) (sizes_of bytes)) (listing_rule bytes) (TableHolds table (payslips_of bytes) (columns_of bytes) (amount_of bytes))
listing_refused bytes table k s e = record { told_is = answer_refused _ _ k s e; holds = λ f. absurd (not_fine (e ∙ f)) }

module _ (bytes : List ℕ) where
  pub too_long : longest_file < length bytes → refused 6 0 ≡ listing_rule bytes
  unfolding listing_rule
  too_long h = stop _ _ 6 0 (refuse_yes _ 6 0 (lt_yes _ _ h))

  pub unread : length bytes ≤ longest_file → (k s : ℕ) → refused k s ≡ read_rule edition1 bytes edition1.limit most_payslips → refused k s ≡ listing_rule bytes
  unfolding listing_rule
  unread h k s e = pass _ _ _ (refuse_no _ 6 0 (lt_no _ _ h)) (stop _ _ k s e)

-- what a file that was read tells, where there is room for every file
module _ (bytes steps outputs scratch table : List ℕ) (room : FileRoom steps outputs scratch table) where
  pub read_file : (r : ReadChain) → done (chain_in r) ≡ read_answer edition1 bytes (length steps / 2) (length outputs) → (steps' outputs' : List ℕ)
      → steps' ≡ read_steps edition1 bytes (length outputs) steps → outputs' ≡ read_outputs edition1 bytes (length steps / 2) outputs
      → Good edition1 bytes steps' outputs' r.p r.q r.counts.steps
  read_file r e steps' outputs' es eo =
      read_good edition1 bytes steps outputs (omega (arith, room.steps_whole)) (omega (arith, room.outputs_whole)) r.p r.q r.counts e steps' outputs' es eo

-- a file that was read
module _ (bytes steps outputs : List ℕ) (p q n : ℕ) (t : Good edition1 bytes steps outputs p q n) where
  steps_are : pairs (take (2 * n) steps) ≡ steps_of edition1 bytes
  steps_are = ap pairs t.taken.steps_front ∙ pairs_flat (steps_of edition1 bytes)

  columns_few : p ≤ most_columns
  columns_few = rw t.taken.columns (columns_low bytes)

  steps_fine : steps_rule p 1 (pairs (take (2 * n) steps)) ≡ fine
  steps_fine =
      ap₂ (λ (k : ℕ) (l : List Step). steps_rule k 1 l) t.taken.columns steps_are
      ∙ (chain_parts _ _ (outputs_of edition1 bytes) (readable edition1 bytes _ _ (sym t.reads)).chain).0

  outputs_fine : outputs_rule (p + length (pairs (take (2 * n) steps))) 1 (take q outputs) ≡ fine
  outputs_fine =
      ap₂ (λ (k : ℕ) (l : List Step). outputs_rule (k + length l) 1 (take q outputs)) t.taken.columns steps_are
      ∙ ap (outputs_rule (columns_of bytes + length (steps_of edition1 bytes)) 1) t.taken.outputs_front
      ∙ (chain_parts _ _ (outputs_of edition1 bytes) (readable edition1 bytes _ _ (sym t.reads)).chain).1

  pub outputs_few : length (take q outputs) ≤ most_payslips
  outputs_few = omega (arith, length-take-le q outputs t.taken.outputs_room, (readable edition1 bytes _ _ (sym t.reads)).outputs_room, t.taken.payslips)

  -- its chain is sound in scratch for any file's
  pub sound : (scratch : List ℕ) → length scratch ≡ most_columns + edition1.limit + 1 → ChainSound p (pairs (take (2 * n) steps)) (take q outputs) scratch
  sound scratch whole =
      record {
        steps_sound =
            record {
              p_low = columns_few;
              steps_fine = steps_fine;
              room = omega (arith, length_pairs (take (2 * n) steps), length-take-le (2 * n) steps t.taken.steps_room, t.taken.few, columns_few, whole);
            };
        outputs_fine = outputs_fine;
      }

  module _ (h : length bytes ≤ longest_file) where
    pub measured : (v : Verdict) → v ≡ exponents_rule p (pairs (take (2 * n) steps)) → v ≡ listing_rule bytes
    unfolding listing_rule
    measured v e =
        pass _ _ _ (refuse_no _ 6 0 (lt_no _ _ h))
        (pass _ _ _ t.reads (e ∙ ap₂ exponents_rule t.taken.columns steps_are))

    -- the answer to a file that is listed, with the counts that were told, and what the table holds
    pub listing_done : (table told : List ℕ) → told ≡ counts (steps_of edition1 bytes) → fine ≡ exponents_rule p (pairs (take (2 * n) steps))
        → TableHolds table (length (take q outputs)) p (at_outputs p (pairs (take (2 * n) steps)) (take q outputs))
        → AmountsTold (done (p ∷ q ∷ told)) (answer (listing_rule bytes) (sizes_of bytes)) (listing_rule bytes)
        (TableHolds table (payslips_of bytes) (columns_of bytes) (amount_of bytes))
    listing_done table told is e holds =
        record {
          told_is = rw (t.taken.columns, t.taken.payslips, is) (answer_done _ _ (measured fine e));
          holds = λ f.
              record {
                each = λ i c hi hc.
                    holds.each i c (omega (arith, length-take-le q outputs t.taken.outputs_room, t.taken.payslips)) (omega (arith, t.taken.columns))
                    ∙ ap₂ (λ (k : ℕ) (l : List Step). at_outputs k l (take q outputs) i c) t.taken.columns steps_are
                    ∙ ap (λ (l : List ℕ). at_outputs (columns_of bytes) (steps_of edition1 bytes) l i c) t.taken.outputs_front;
              };
        }
