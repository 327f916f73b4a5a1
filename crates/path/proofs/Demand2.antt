-- Demand 2 of the legal chains: edition 1 holds them all and no others, as its limit is the chain's, so each law of the file holds of them as it stands.
use mathlib.Core.Path.{◌≡◌}
use mathlib.Core.List.{List}
use Prim.Native.Nat.{ℕ, ◌≤◌}
use native.Mathlib.Omega.{arith}
use lib.ListN.{length}
use Rattle.chain.specs.Verdict.{fine, refused}
use Rattle.chain.specs.Chain.{most_steps, Legal}
use Rattle.chain.specs.declared.Step.{Step}
use Rattle.chain.proofs.Legal.{legal_parts, parts_legal}
use Rattle.bits.proofs.Pack.{Bytes}
use Rattle.layout.specs.Layout.{edition1}
use Rattle.layout.specs.File.{file_of, byte_count, longest_file, columns_of, steps_of, outputs_of, Held, read_rule}
use Rattle.layout.specs.Widths.{WidthsByCases}
use Rattle.layout.proofs.Editions.{edition1_sound}
use Rattle.layout.proofs.Held.{held_parts, parts_held}
use Rattle.layout.proofs.ReadingBack.{ReadBack, Same, reading_gives, reading_back, file_low, one_chain}
use Rattle.layout.proofs.OneFile.{reading_is_a_file, others_refused}
use Rattle.layout.proofs.Widths.{widths_by_cases}

-- the two limits: the one place where they are held against each other
chain_within : most_steps ≤ edition1.limit
chain_within = omega arith

edition_within : edition1.limit ≤ most_steps
edition_within = omega arith

module _ (p : ℕ) (steps : List Step) (outputs : List ℕ) where
  pub legal_held : Legal p steps outputs → Held edition1 p steps outputs
  legal_held ok =
      let l = legal_parts p steps outputs ok in
      parts_held edition1 p steps outputs (record { sizes = l.sizes; few = omega (arith, l.few, chain_within); chain = l.chain })

  pub held_legal : Held edition1 p steps outputs → Legal p steps outputs
  held_legal ok =
      let h = held_parts edition1 p steps outputs ok in
      parts_legal p steps outputs (record { sizes = h.sizes; few = omega (arith, h.few, edition_within); chain = h.chain })

-- "Each legal chain has just one file": no other chain has it
pub legal_one_chain : (p p' : ℕ) (steps steps' : List Step) (outputs outputs' : List ℕ) → Legal p steps outputs → Legal p' steps' outputs'
    → file_of edition1 p steps outputs ≡ file_of edition1 p' steps' outputs' → Same p p' steps steps' outputs outputs'
legal_one_chain p p' steps steps' outputs outputs' a b =
    one_chain edition1 edition1_sound p p' steps steps' outputs outputs' (legal_held p steps outputs a) (legal_held p' steps' outputs' b)

-- reading the file with room enough gives the chain
module _ (p : ℕ) (steps : List Step) (outputs : List ℕ) (legal : Legal p steps outputs) where
  pub legal_reads : (pairs_lent outputs_lent : ℕ) → length steps ≤ pairs_lent → length outputs ≤ outputs_lent
      → read_rule edition1 (file_of edition1 p steps outputs) pairs_lent outputs_lent ≡ fine
  legal_reads = reading_back edition1 edition1_sound p steps outputs (legal_held p steps outputs legal)

  pub legal_gives : ReadBack edition1 p steps outputs (file_of edition1 p steps outputs)
  legal_gives = reading_gives edition1 edition1_sound p steps outputs (legal_held p steps outputs legal)

  pub legal_low : byte_count edition1 p (length outputs) (length steps) ≤ longest_file
  legal_low = file_low edition1 edition1_sound p steps outputs (legal_held p steps outputs legal)

  -- and in it every width is found by cases and is the bit length of p + n (Req 03)
  pub legal_widths : WidthsByCases edition1 p steps outputs (file_of edition1 p steps outputs)
  legal_widths = widths_by_cases edition1 edition1_sound p steps outputs (legal_held p steps outputs legal)

-- "and every other string of bytes is refused"
module _ (bytes : List ℕ) (ok : Bytes bytes) (pairs_lent outputs_lent : ℕ) where
  pub read_is_legal : read_rule edition1 bytes pairs_lent outputs_lent ≡ fine → Legal (columns_of bytes) (steps_of edition1 bytes) (outputs_of edition1 bytes)
  read_is_legal e = held_legal _ _ _ (reading_is_a_file edition1 edition1_sound bytes ok pairs_lent outputs_lent e).held

  pub legal_others_refused : ((p : ℕ) (steps : List Step) (outputs : List ℕ) → Legal p steps outputs → bytes ≡ file_of edition1 p steps outputs → ⊥)
      → (number : ℕ) × (place : ℕ) × (read_rule edition1 bytes pairs_lent outputs_lent ≡ refused number place)
  legal_others_refused none =
      others_refused edition1 edition1_sound bytes ok pairs_lent outputs_lent (λ p steps outputs held. none p steps outputs (held_legal p steps outputs held))
