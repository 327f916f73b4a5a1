-- A header that the layout's limit lets through states a p + n that is in a case, so the case gives the width by which the file was written and is read.
use mathlib.Core.Path.{◌≡◌, sym, ap, ap₂, ◌∙◌}
use mathlib.Core.List.{List}
use Prim.Native.Nat.{ℕ, ◌+◌, ◌*◌, ◌≤◌}
use native.Mathlib.Omega.{arith}
use lib.ListN.{length}
use Rattle.chain.specs.Chain.{flat}
use Rattle.chain.specs.declared.Step.{Step}
use Rattle.width.specs.Cases.{width_by_cases}
use Rattle.width.proofs.Cases.{by_cases_is}
use Rattle.bits.specs.Bits.{fields_at}
use Rattle.layout.specs.declared.Layout.{Layout}
use Rattle.layout.specs.File.{file_of, header_size, width, length_of, width_of, outputs_of, Held}
use Rattle.layout.specs.Widths.{width_stated, WidthsByCases}
use Rattle.layout.specs.Inner.{SoundLayout, Sized}
use Rattle.layout.proofs.Lengths.{top_low, length-file}
use Rattle.layout.proofs.Held.{held_parts}
use Rattle.layout.proofs.Readable.{header_sized}
use Rattle.layout.proofs.ReadingBack.{reading_gives}
use Rattle.layout.proofs.OneFile.{flat_steps_of}

-- for sizes that the layout holds, W by cases is W
pub width_by_cases_lem : (L : Layout) → SoundLayout L → (p q n : ℕ) → Sized L p q n → width_by_cases (p + n) ≡ width p n
width_by_cases_lem L sound p q n sized = by_cases_is (p + n) (omega (arith, sized.p_some)) (omega (arith, top_low L sound p q n sized))

module _ (L : Layout) (sound : SoundLayout L) (p : ℕ) (steps : List Step) (outputs : List ℕ) (held : Held L p steps outputs) where
  abbrev file : List ℕ
  file = file_of L p steps outputs

  stated : length_of L file ≤ L.limit → width_stated L file ≡ width_of L file
  stated few = width_by_cases_lem L sound _ _ _ (header_sized L file few)

  pub widths_by_cases : WidthsByCases L p steps outputs file
  unfolding outputs_of
  widths_by_cases =
      let r = reading_gives L sound p steps outputs held in
      let w = stated (omega (arith, r.long, (held_parts L p steps outputs held).few)) in
      record {
        is_bit_length = w ∙ ap₂ width r.columns r.long;
        operands_fill = ap₂ (λ (v k : ℕ). fields_at file (header_size L) v (2 * k)) w (sym r.long) ∙ sym (flat_steps_of L file) ∙ ap flat r.steps_same;
        outputs_fill =
            ap₂ (λ (v k : ℕ). fields_at file (header_size L + 2 * k * v) v (length outputs)) w (sym r.long)
            ∙ ap (fields_at file (header_size L + 2 * length_of L file * width_of L file) (width_of L file)) (sym r.payslips)
            ∙ r.outputs_same;
        long = length-file L p steps outputs ∙ sym (rw (w, r.columns, r.long));
      }
