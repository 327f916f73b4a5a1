-- The chain is the squarings of the bases and then the payslips: there is room for both, and both together are what was asked for.
use mathlib.Core.Path.{◌≡◌, ap, ◌∙◌}
use mathlib.Core.List.{List}
use Prim.Native.Nat.{ℕ, ◌≤◌}
use native.Mathlib.Omega.{arith}
use lib.ListN.{length, get_or}
use Rattle.chain.specs.Chain.{most_columns}
use Rattle.chain.specs.declared.Step.{Step}
use Rattle.digits.proofs.Listed.{length-list, get_d_list}
use Rattle.products.specs.Product.{payslips}
use Rattle.products.specs.Inner.{steps_in, begun, StepsRoom, StepsStored}
use Rattle.products.specs.declared.Progress.{Progress}
use Rattle.methods.specs.Powers.{counts_of, squarings}
use Rattle.methods.specs.Inner.{ChainRoom, ChainStored, PayslipsRoom}
use Rattle.methods.proofs.Columns.{squarings_same}
use Rattle.methods.proofs.Paying.{begin_room, payslips_room, chain_stored}
use Rattle.yao.specs.Yao.{yao_squarings, yao, yao_count}
use Rattle.yao.specs.Inner.{squarings_in}
use Rattle.yao_emit.specs.Inner.{SquaringsCounted, yao_slip}
use Rattle.yao_emit.proofs.Paying.{slip_begins}
use Rattle.yao.proofs.Measuring.{squarings_are}
use Rattle.yao.proofs.Yao.{yao_count_lem}

module _ {p q : ℕ} {amounts : List ℕ} {k : ℕ} {columns counts : List ℕ} (asked : SquaringsCounted p q amounts k columns counts) where
  counts-length : length counts ≡ p
  counts-length = ap length asked.counts_are ∙ length-list p (squarings_in k columns)

  pub counts_few : length counts ≤ most_columns
  counts_few = omega (arith, counts-length, asked.chain.ranges.sheet.p_low)

  -- the bases are squared as the counts say
  abbrev Squared : List Step
  Squared = squarings p (counts_of counts) (length counts)

  abbrev start : List Step
  start = squarings p (yao_squarings p q amounts k) p

  squared_is : Squared ≡ start
  squared_is =
      ap (squarings p (counts_of counts)) counts-length
      ∙ squarings_same p (counts_of counts) (yao_squarings p q amounts k) p
      (λ c h. ap (λ (l : List ℕ). get_or l c 0) asked.counts_are ∙ get_d_list p (squarings_in k columns) 0 c h
      ∙ squarings_are p q amounts k columns asked.chain.measured c h)

  counted : length (payslips (yao_slip p q amounts k) start q).steps ≡ yao_count p q amounts k
  unfolding yao
  counted = yao_count_lem p q amounts k asked.chain.ranges.k_some

  module _ {old outputs : List ℕ} (fits : ChainRoom q (yao_count p q amounts k) old outputs) where
    pub squarings_room : StepsRoom p old begun Squared
    squarings_room = rw squared_is (begin_room (yao_slip p q amounts k) (slip_begins p q amounts k) start q asked.chain.ranges.sheet.p_low fits counted)

    pub after_squarings : {steps : List ℕ} {r : Progress} → StepsStored old steps r Squared
        → PayslipsRoom p q steps r (payslips (yao_slip p q amounts k) (steps_in steps r.steps) q).steps outputs
    after_squarings st =
        payslips_room (yao_slip p q amounts k) (slip_begins p q amounts k) start q asked.chain.ranges.sheet.p_low fits counted (rw squared_is at st)

  pub chain_made : {old steps outputs₀ steps' outputs' : List ℕ} {s s' : Progress} → StepsStored old steps s Squared
      → ChainStored steps outputs₀ steps' outputs' s' (payslips (yao_slip p q amounts k) (steps_in steps s.steps) q)
      → ChainStored old outputs₀ steps' outputs' s' (yao p q amounts k)
  unfolding yao
  chain_made st r = chain_stored (yao_slip p q amounts k) (slip_begins p q amounts k) start q (rw squared_is at st) r
