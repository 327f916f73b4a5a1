-- Each field is read back from the bits it was written as, header first, then the widths that it fixes: so a file gives its chain, and no two chains have one file.
use mathlib.Core.Path.{◌≡◌, refl, sym, ap, ap₂, ◌∙◌}
use mathlib.Core.Bool.{Bool}
use mathlib.Core.List.{List, [], ◌++◌, append_assoc, append-nil}
use Prim.Native.Nat.{ℕ, ◌+◌, ◌-◌, ◌*◌, ◌^◌, ◌≤◌, ◌<◌}
use native.Mathlib.Omega.{arith}
use lib.ListN.{length, get_or, length-append}
use lib.Seq.{drop-nil}
use Rattle.chain.specs.Verdict.{fine}
use Rattle.chain.specs.Written.{over}
use Rattle.chain.specs.Chain.{pairs, flat}
use Rattle.chain.specs.declared.Step.{Step}
use Rattle.chain.proofs.Pairs.{pairs_flat, length-flat}
use Rattle.bits.specs.Bits.{bits, fields, pack, bytes_for, field_at, fields_at}
use Rattle.bits.specs.Inner.{filed}
use Rattle.bits.proofs.Values.{length-bits}
use Rattle.bits.proofs.Fields.{length_fields}
use Rattle.bits.proofs.Filed.{field_back, fields_back, filling_zero}
use Rattle.layout.specs.declared.Layout.{Layout}
use Rattle.layout.specs.File.{header_bits, header_size, width, file_bits, file_of, bit_count, byte_count, most_bytes, edition_of, columns_of, payslips_of}
use Rattle.layout.specs.File.{length_of, width_of, steps_of, outputs_of, bits_of, filling_of, Held, read_rule}
use Rattle.layout.specs.Inner.{SoundLayout}
use Rattle.layout.proofs.Lengths.{length_header, length-file_bits, length-file, count_most}
use Rattle.layout.proofs.Held.{HeldChain, held_parts, held_sized}
use Rattle.layout.proofs.Numbers.{operands_small, outputs_small}
use Rattle.layout.proofs.Readable.{read_fine}

module _ (L : Layout) (sound : SoundLayout L) (p : ℕ) (steps : List Step) (outputs : List ℕ) where
  abbrev n : ℕ
  n = length steps

  abbrev q : ℕ
  q = length outputs

  abbrev w : ℕ
  w = width p n

  abbrev file : List ℕ
  file = file_of L p steps outputs

  -- the file as a buffer that has nothing else
  file_filed : file ≡ filed (file_bits L p steps outputs) []
  unfolding file_of over
  file_filed =
      sym
      (ap (λ (k : ℕ). over (pack (bytes_for k) (file_bits L p steps outputs)) []) (length-file_bits L p steps outputs)
      ∙ ap (λ (r : List ℕ). file_of L p steps outputs ++ r) (drop-nil (length (file_of L p steps outputs))) ∙ append-nil (file_of L p steps outputs))

  -- what stands between the bits a and c is read at the end of a
  read_field : (v x : ℕ) (a c : List Bool) (at : ℕ) → length a ≡ at → file_bits L p steps outputs ≡ a ++ (bits v x ++ c) → x < 2 ^ v → field_at file at v ≡ x
  read_field v x a c at ea e h =
      ap (λ (k : ℕ). field_at file k v) (sym ea)
      ∙ ap (λ (r : List ℕ). field_at r (length a) v) (file_filed ∙ ap (λ (b : List Bool). filed b []) e)
      ∙ field_back v x a c [] h

  read_fields_lem : (xs : List ℕ) (a c : List Bool) (at m : ℕ) → length a ≡ at → length xs ≡ m → file_bits L p steps outputs ≡ a ++ (fields w xs ++ c)
      → ((k : ℕ) → get_or xs k 0 < 2 ^ w) → fields_at file at w m ≡ xs
  read_fields_lem xs a c at m ea em e h =
      ap₂ (λ (i j : ℕ). fields_at file i w j) (sym ea) (sym em)
      ∙ ap (λ (r : List ℕ). fields_at r (length a) w (length xs)) (file_filed ∙ ap (λ (b : List Bool). filed b []) e)
      ∙ fields_back xs w a c [] h

  abbrev body : List Bool
  body = fields w (flat steps) ++ fields w outputs

  edition_back : edition_of file ≡ L.edition
  unfolding file_bits
  edition_back = read_field 4 L.edition [] (bits 4 (p - 1) ++ (bits 6 (q - 1) ++ (bits L.bits n ++ body))) 0 refl (simp append_assoc)
      (omega (arith, sound.edition_fits))

  module _ (held : HeldChain L p steps outputs) where
    pub columns_back : columns_of file ≡ p
    unfolding file_bits
    columns_back =
        omega (
          arith,
          read_field 4 (p - 1) (bits 4 L.edition) (bits 6 (q - 1) ++ (bits L.bits n ++ body)) 4 (length-bits 4 L.edition)
              (simp append_assoc) (omega (arith, held.sizes.p_low)),
          held.sizes.p_some,
        )

    pub payslips_back : payslips_of file ≡ q
    unfolding file_bits
    payslips_back =
        let len : length (bits 4 L.edition ++ bits 4 (p - 1)) ≡ 8 =
        omega (arith, length-append (bits 4 L.edition) (bits 4 (p - 1)), length-bits 4 L.edition, length-bits 4 (p - 1)) in
        omega (
          arith,
          read_field 6 (q - 1) (bits 4 L.edition ++ bits 4 (p - 1)) (bits L.bits n ++ body) 8 len (simp append_assoc) (omega (arith, held.sizes.q_low)),
          held.sizes.q_some,
        )

    pub length_back : length_of L file ≡ n
    unfolding file_bits
    length_back =
        let a : List Bool = bits 4 L.edition ++ bits 4 (p - 1) ++ bits 6 (q - 1) in
        let len : length a ≡ 14 = omega (arith, length-append a (bits L.bits n), length_header L p q n, length-bits L.bits n) in
        read_field L.bits n a body 14 len (append_assoc a (bits L.bits n) body) (omega (arith, held.few, sound.counted))

    width_back : width_of L file ≡ w
    width_back = ap₂ width columns_back length_back

    pub steps_back : steps_of L file ≡ steps
    unfolding steps_of file_bits
    steps_back =
        ap₂ (λ (v k : ℕ). pairs (fields_at file (header_size L) v (2 * k))) width_back length_back
        ∙ ap pairs (read_fields_lem (flat steps) (header_bits L p q n) (fields w outputs) (header_size L) (2 * n) (length_header L p q n)
        (length-flat steps) refl (operands_small p steps outputs held.chain))
        ∙ pairs_flat steps

    pub outputs_back : outputs_of L file ≡ outputs
    unfolding outputs_of file_bits
    outputs_back =
        let a : List Bool = header_bits L p q n ++ fields w (flat steps) in
        let len : length a ≡ header_size L + 2 * n * w =
        omega (
          arith,
          length-append (header_bits L p q n) (fields w (flat steps)),
          length_header L p q n,
          length_fields w
              (flat steps),
          ap (λ (k : ℕ). k * w) (length-flat steps),
        ) in
        ap₂ (λ (v k : ℕ). fields_at file (header_size L + 2 * k * v) v (payslips_of file)) width_back length_back
        ∙ ap (fields_at file (header_size L + 2 * n * w) w) payslips_back
        ∙ read_fields_lem outputs a [] (header_size L + 2 * n * w) q len refl (sym (append_assoc (header_bits L p q n) (fields w (flat steps)) (fields w outputs ++ [])
        ∙ ap (λ (r : List Bool). header_bits L p q n ++ (fields w (flat steps) ++ r)) (append-nil (fields w outputs)))) (outputs_small p steps outputs held.chain)

    count_back : bits_of L file ≡ bit_count L p q n
    count_back = rw (columns_back, payslips_back, length_back)

    filling_back : filling_of L file ≡ 0
    filling_back =
        let k : ℕ = 8 * length file - bit_count L p q n in
        ap (λ (m : ℕ). field_at file m (8 * length file - m)) count_back
        ∙ ap (λ (r : List ℕ). field_at r (bit_count L p q n) k) file_filed
        ∙ filling_zero (file_bits L p steps outputs) [] (bit_count L p q n) k (length-file_bits L p steps outputs)
        (ap (λ (m : ℕ). 8 * m - bit_count L p q n) (length-file L p steps outputs))

-- what reading a legal chain's file gives
pub record ReadBack (L : Layout) (p : ℕ) (steps : List Step) (outputs file : List ℕ) : Type 0 where
  pub columns : columns_of file ≡ p
  pub payslips : payslips_of file ≡ length outputs
  pub long : length_of L file ≡ length steps
  pub steps_same : steps_of L file ≡ steps
  pub outputs_same : outputs_of L file ≡ outputs

module _ (L : Layout) (sound : SoundLayout L) (p : ℕ) (steps : List Step) (outputs : List ℕ) (held : Held L p steps outputs) where
  parts : HeldChain L p steps outputs
  parts = held_parts L p steps outputs held

  pub reading_gives : ReadBack L p steps outputs (file_of L p steps outputs)
  reading_gives =
      record {
        columns = columns_back L sound p steps outputs parts;
        payslips = payslips_back L sound p steps outputs parts;
        long = length_back L sound p steps outputs parts;
        steps_same = steps_back L sound p steps outputs parts;
        outputs_same = outputs_back L sound p steps outputs parts;
      }

  -- it is read wherever there is room
  pub reading_back : (pairs_lent outputs_lent : ℕ) → length steps ≤ pairs_lent → length outputs ≤ outputs_lent
      → read_rule L (file_of L p steps outputs) pairs_lent outputs_lent ≡ fine
  reading_back x y hx hy =
      let f : List ℕ = file_of L p steps outputs in
      let r = reading_gives in
      read_fine L f x y
      (record {
        some = omega (arith, length-file L p steps outputs, sound.long);
        same_edition = edition_back L sound p steps outputs;
        few = omega (arith, r.long, parts.few);
        long = length-file L p steps outputs ∙ sym (rw (r.columns, r.payslips, r.long));
        pairs_room = omega (arith, r.long);
        outputs_room = omega (arith, r.payslips);
        filling = filling_back L sound p steps outputs parts;
        chain = rw (r.columns, r.steps_same, r.outputs_same) parts.chain;
      })

  -- and has at most the bytes of the longest file
  pub file_low : byte_count L p (length outputs) (length steps) ≤ most_bytes L
  file_low = count_most L sound p (length outputs) (length steps) (held_sized L p steps outputs parts)

-- a chain is known by its file
pub record Same (p p' : ℕ) (steps steps' : List Step) (outputs outputs' : List ℕ) : Type 0 where
  pub columns : p ≡ p'
  pub steps_same : steps ≡ steps'
  pub outputs_same : outputs ≡ outputs'

pub one_chain : (L : Layout) → SoundLayout L → (p p' : ℕ) (steps steps' : List Step) (outputs outputs' : List ℕ) → Held L p steps outputs → Held L p' steps' outputs'
    → file_of L p steps outputs ≡ file_of L p' steps' outputs' → Same p p' steps steps' outputs outputs'
one_chain L sound p p' steps steps' outputs outputs' held held' e =
    let a = reading_gives L sound p steps outputs held in
    let b = reading_gives L sound p' steps' outputs' held' in
    record {
      columns = sym a.columns ∙ ap columns_of e ∙ b.columns;
      steps_same = sym a.steps_same ∙ ap (steps_of L) e ∙ b.steps_same;
      outputs_same = sym a.outputs_same ∙ ap (outputs_of L) e ∙ b.outputs_same;
    }
