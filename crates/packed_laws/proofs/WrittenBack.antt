-- What was read is the amounts of the fields, and each field is written anew as it was, with plus for unsigned: so writing the amounts gives the bytes.
use mathlib.Core.Path.{◌≡◌, sym, ap, ◌∙◌}
use mathlib.Core.List.{List, [], map, map-map}
use Prim.Native.Nat.{ℕ, ◌+◌, ◌*◌, ◌≤◌, ◌<◌}
use native.Mathlib.Omega.{arith}
use lib.ListN.{length, get_or}
use Rattle.chain.specs.Verdict.{fine}
use Rattle.chain.specs.Written.{over, in_a_row}
use Rattle.chain.proofs.Rules.{pass, answer_done, renewed, refuse_no, lt_no}
use Rattle.chain.proofs.Limits.{low_numbers}
use Rattle.packed.specs.Field.{field_bytes, most_packed, amount_of, field_of, written_back, field_from, fields_in}
use Rattle.packed.specs.Packed.{unpacked, packed, unpack_rule, writable_rule, pack_rule, pack_answer, pack_bytes}
use Rattle.packed.proofs.Fields.{length_fields, field_is, length_amounts, amount_is, length-packed}
use Rattle.packed_laws.specs.Accepted.{Saying}
use Rattle.packed_laws.specs.Back.{amounts_read, WrittenBack}
use Rattle.packed_laws.proofs.Accepted.{accepted}
use Rattle.packed_laws.proofs.Rows.{map_same, field_byte, packed_field}
use Rattle.packed_laws.proofs.Rewritten.{written_anew, byte_kept, byte_plus}
use Rattle.packed_laws.proofs.Read.{amounts_read_lem, field_there, read_sheet, read_low}

module _ (p q : ℕ) (bytes : List ℕ) (s : Saying p q bytes (p * q)) where
  abbrev amounts : List ℕ
  amounts = unpacked p q bytes

  abbrev fields : List (List ℕ)
  fields = fields_in (p * q) bytes

  abbrev at : ℕ → ℕ
  at k = field_bytes * k

  anew : (k : ℕ) → k < p * q → field_of (amount_of (field_from bytes (at k))) ≡ written_back (field_from bytes (at k))
  anew k h = written_anew bytes (at k) (field_there p q bytes s k h) (s.fields k h)

  packed_unpacked : packed amounts ≡ in_a_row (map written_back fields)
  packed_unpacked = ap in_a_row (map-map field_of amount_of fields ∙ map_same (λ f. field_of (amount_of f)) written_back [] fields each)
    where
      each : (k : ℕ) → k < length fields → field_of (amount_of (get_or fields k [])) ≡ written_back (get_or fields k [])
      each k h =
          let inside : k < p * q = omega (arith, length_fields (p * q) bytes) in
          rw (field_is (p * q) bytes k inside) (anew k inside)

  -- byte j of field k
  byte_anew : (k j : ℕ) → k < p * q → j < field_bytes → get_or (packed amounts) (at k + j) 0 ≡ get_or (written_back (field_from bytes (at k))) j 0
  byte_anew k j h g =
      sym (field_byte (packed amounts) (at k) j g)
      ∙ ap (λ (f : List ℕ). get_or f j 0)
      (packed_field amounts k (omega (arith, length_amounts (p * q) bytes)) ∙ ap field_of (amount_is (p * q) bytes k h) ∙ anew k h)

  anew_back : (new : List ℕ) → field_bytes * (p * q) ≤ length new → WrittenBack p q bytes amounts new
  unfolding pack_answer pack_bytes pack_rule writable_rule
  anew_back new room =
      record {
        all_written = sym (answer_done _ _ packs);
        fields_same = sym (renewed _ _ new _ packs (ap (λ (l : List ℕ). over l new) (sym packed_unpacked)));
        as_many = length-packed amounts ∙ ap at (length_amounts (p * q) bytes);
        byte_same = λ k j h g kept. byte_anew k j h g ∙ byte_kept bytes (at k) (field_there p q bytes s k h) j g kept;
        byte_less = λ k h e. ap (λ (b : ℕ). b + 3) (byte_anew k 4 h (omega arith)) ∙ byte_plus bytes (at k) (field_there p q bytes s k h) e;
      }
    where
      packs : fine ≡ pack_rule p q amounts (length new)
      packs =
          pass _ _ fine
          (pass _ _ fine (sym (read_sheet p q bytes s)) (sym (low_numbers 20 most_packed 1 amounts (λ k h. read_low p q bytes s k))))
          (refuse_no _ 5 0 (lt_no _ _ room))

pub pack_unpacked : (p q : ℕ) (bytes old new : List ℕ) → unpack_rule p q bytes (length old) ≡ fine → field_bytes * (p * q) ≤ length new
    → WrittenBack p q bytes (amounts_read p q bytes old) new
pack_unpacked p q bytes old new ok room = rw (amounts_read_lem p q bytes old ok) (anew_back p q bytes (accepted p q bytes (length old) ok) new room)
