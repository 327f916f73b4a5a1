-- The fields read from a file, written again, are its bits part by part, and the filling is zero: so bytes that are read are the file of the chain read.
use mathlib.Core.Path.{◌≡◌, refl, sym, ap, ap₂, ◌∙◌}
use mathlib.Core.Bool.{Bool}
use mathlib.Core.List.{List, ◌++◌, append_assoc}
use Prim.Native.Nat.{ℕ, ◌+◌, ◌-◌, ◌*◌, ◌/◌, ◌≤◌}
use native.Mathlib.Omega.{arith}
use lib.ListN.{length, take, drop}
use lib.Seq.{take-add}
use Rattle.chain.specs.Verdict.{Verdict, fine, refused}
use Rattle.chain.specs.Chain.{flat}
use Rattle.chain.specs.declared.Step.{Step}
use Rattle.chain.proofs.Pairs.{length_pairs, flat_pairs}
use Rattle.bits.specs.Bits.{bits, fields, bytes_bits, pack, field_at, fields_at}
use Rattle.bits.proofs.Fields.{length_fields_at, bits_field, fields_fields}
use Rattle.bits.proofs.Pack.{Bytes}
use Rattle.bits.proofs.Filed.{filled}
use Rattle.layout.specs.declared.Layout.{Layout}
use Rattle.layout.specs.File.{header_bits, header_size, width, file_bits, file_of, bit_count, byte_count, columns_of, payslips_of, length_of, width_of}
use Rattle.layout.specs.File.{steps_of, outputs_of, Held, read_rule}
use Rattle.layout.specs.Inner.{SoundLayout}
use Rattle.layout.proofs.Lengths.{count_parts}
use Rattle.layout.proofs.Held.{HeldChain, parts_held}
use Rattle.layout.proofs.Readable.{Readable, readable, columns_low, payslips_low}

module _ (L : Layout) (bytes : List ℕ) where
  abbrev p : ℕ
  p = columns_of bytes

  abbrev q : ℕ
  q = payslips_of bytes

  abbrev n : ℕ
  n = length_of L bytes

  abbrev w : ℕ
  w = width_of L bytes

  abbrev x : List Bool
  x = bytes_bits bytes

  pub length_steps_of : length (steps_of L bytes) ≡ n
  unfolding steps_of
  length_steps_of = length_pairs (fields_at bytes (header_size L) w (2 * n)) ∙ ap (λ (k : ℕ). k / 2) (length_fields_at bytes (header_size L) w (2 * n)) ∙ omega arith

  pub length-outputs_of : length (outputs_of L bytes) ≡ q
  unfolding outputs_of
  length-outputs_of = length_fields_at bytes (header_size L + 2 * n * w) w q

  pub flat_steps_of : flat (steps_of L bytes) ≡ fields_at bytes (header_size L) w (2 * n)
  unfolding steps_of
  flat_steps_of = flat_pairs n _ (length_fields_at bytes (header_size L) w (2 * n))

  -- parts of the bits, one after the other
  join : (a b : List Bool) (i k : ℕ) → a ≡ take i x → b ≡ take k (drop i x) → a ++ b ≡ take (i + k) x
  join a b i k ea eb = ap₂ (λ (u v : List Bool). u ++ v) ea eb ∙ sym (take-add i k x)

  module _ (sound : SoundLayout L) (y z : ℕ) (r : Readable L bytes y z) where
    header_is : header_bits L p q n ≡ take (header_size L) x
    header_is =
        let long : 4 ≤ length bytes = r.some in
        let e : bits 4 L.edition ≡ take 4 x = ap (bits 4) (sym r.same_edition) ∙ bits_field bytes 4 0 (omega arith) in
        let ep : p - 1 ≡ field_at bytes 4 4 = omega arith in
        let eq : q - 1 ≡ field_at bytes 8 6 = omega arith in
        join _ (bits L.bits n) 14 L.bits
        (join _ (bits 6 (q - 1)) 8 6
        (join (bits 4 L.edition) (bits 4 (p - 1)) 4 4 e (ap (bits 4) ep ∙ bits_field bytes 4 4 (omega arith)))
        (ap (bits 6) eq ∙ bits_field bytes 6 8 (omega arith)))
        (bits_field bytes L.bits 14 (omega (arith, sound.short)))

    bits_are : file_bits L p (steps_of L bytes) (outputs_of L bytes) ≡ take (bit_count L p q n) x
    unfolding file_bits outputs_of
    bits_are =
        let len : bit_count L p q n ≡ header_size L + 2 * n * w + q * w = count_parts L p q n in
        let within : bit_count L p q n ≤ 8 * length bytes = omega (arith, r.long) in
        ap₂ (λ (j k : ℕ). header_bits L p j k ++ (fields (width p k) (flat (steps_of L bytes)) ++ fields (width p k)
        (outputs_of L bytes))) length-outputs_of length_steps_of
        ∙ sym (append_assoc (header_bits L p q n) (fields w (flat (steps_of L bytes))) (fields w (outputs_of L bytes)))
        ∙ join (header_bits L p q n ++ fields w (flat (steps_of L bytes))) (fields w (outputs_of L bytes)) (header_size L + 2 * n * w) (q * w)
        (join (header_bits L p q n) (fields w (flat (steps_of L bytes))) (header_size L) (2 * n * w) header_is
        (ap (fields w) flat_steps_of ∙ fields_fields bytes w (header_size L) (2 * n) (omega arith)))
        (fields_fields bytes w (header_size L + 2 * n * w) q (omega arith))
        ∙ ap (λ (k : ℕ). take k x) (sym len)

    file_is : Bytes bytes → bytes ≡ file_of L p (steps_of L bytes) (outputs_of L bytes)
    unfolding file_of
    file_is ok =
        filled bytes (bit_count L p q n) (8 * length bytes - bit_count L p q n) ok r.long refl r.filling
        ∙ ap₂ pack r.long (sym bits_are)
        ∙ ap₂ (λ (j k : ℕ). pack (byte_count L p j k) (file_bits L p (steps_of L bytes) (outputs_of L bytes))) (sym length-outputs_of) (sym length_steps_of)

    held_is : HeldChain L p (steps_of L bytes) (outputs_of L bytes)
    held_is =
        record {
          sizes = record { p_some = omega arith; p_low = columns_low bytes; q_some = omega (arith, length-outputs_of); q_low = omega (arith, length-outputs_of, payslips_low bytes) };
          few = omega (arith, length_steps_of, r.few);
          chain = r.chain;
        }

-- bytes that are read are the file of the chain that is read from them
pub record IsFile (L : Layout) (bytes : List ℕ) : Type 0 where
  pub held : Held L (columns_of bytes) (steps_of L bytes) (outputs_of L bytes)
  pub is : bytes ≡ file_of L (columns_of bytes) (steps_of L bytes) (outputs_of L bytes)

module _ (L : Layout) (sound : SoundLayout L) (bytes : List ℕ) (ok : Bytes bytes) (pairs_lent outputs_lent : ℕ) where
  pub reading_is_a_file : read_rule L bytes pairs_lent outputs_lent ≡ fine → IsFile L bytes
  reading_is_a_file e =
      let r = readable L bytes pairs_lent outputs_lent e in
      record {
        held = parts_held L _ (steps_of L bytes) (outputs_of L bytes) (held_is L bytes sound pairs_lent outputs_lent r);
        is = file_is L bytes sound pairs_lent outputs_lent r ok;
      }

  -- every other string of bytes is refused
  pub others_refused : ((p : ℕ) (steps : List Step) (outputs : List ℕ) → Held L p steps outputs → bytes ≡ file_of L p steps outputs → ⊥)
      → (number : ℕ) × (place : ℕ) × (read_rule L bytes pairs_lent outputs_lent ≡ refused number place)
  others_refused none = by_verdict (read_rule L bytes pairs_lent outputs_lent) refl
    where
      by_verdict : (v : Verdict) → read_rule L bytes pairs_lent outputs_lent ≡ v → (number : ℕ) × (place : ℕ) × (v ≡ refused number place)
      by_verdict fine e = let f = reading_is_a_file e in absurd (none _ _ _ f.held f.is)
      by_verdict (refused number place) e = (number, place, refl)
