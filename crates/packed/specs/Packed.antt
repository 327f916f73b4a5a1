-- A whole sheet of packed fields, read and written (Req 02; Spec 7.5).
use Rattle.std.specs.Prelude.{List, [], ◌∷◌, map, ℕ, ◌*◌, length}
use Rattle.chain.specs.Tests.{◌<?◌, ◌≠?◌}
use Rattle.chain.specs.Verdict.{Verdict, ◌then◌, refuse_if, in_order, Answer, answer, on_fine}
use Rattle.chain.specs.Written.{over, in_a_row}
use Rattle.chain.specs.Chain.{sizes_rule, limit_rule}
use Rattle.sheet.specs.Sheet.{sheet_rule}
use Rattle.packed.specs.Field.{field_bytes, most_packed, amount_of, field_of, field_rule, fields_in}

-- Spec 7.5: the amounts of a sheet's fields, and the fields of its amounts
abbrev pub unpacked : ℕ → ℕ → List ℕ → List ℕ
unpacked p q bytes = map amount_of (fields_in (p * q) bytes)

abbrev pub packed : List ℕ → List ℕ
packed amounts = in_a_row (map field_of amounts)

-- Spec 10.2: fields can be read, if 1, 2, and 18 and 19 field by field do not apply; 2 is for bytes that are not five for each amount
unfoldable pub readable_rule : ℕ → ℕ → List ℕ → Verdict
readable_rule p q bytes =
    sizes_rule p q
    then refuse_if (length bytes ≠? field_bytes * (p * q)) 2 0
    then in_order field_rule 1 (fields_in (p * q) bytes)

-- Spec 10.2: and then 5; the last argument is how many amounts are lent
unfoldable pub unpack_rule : ℕ → ℕ → List ℕ → ℕ → Verdict
unpack_rule p q bytes amounts_lent = readable_rule p q bytes then refuse_if (amounts_lent <? p * q) 5 0

-- Spec 10.6: how many fields were read
unfoldable pub unpack_answer : ℕ → ℕ → List ℕ → ℕ → Answer
unpack_answer p q bytes amounts_lent = answer (unpack_rule p q bytes amounts_lent) (p * q ∷ [])

-- Spec 10.5: what the lent slice is afterwards; it was old before
unfoldable pub unpack_amounts : ℕ → ℕ → List ℕ → List ℕ → List ℕ
unpack_amounts p q bytes old = on_fine (unpack_rule p q bytes (length old)) (over (unpacked p q bytes) old) old

-- Spec 10.2: amounts can be written, if 1, 2, and 20 for one that nine digits cannot say do not apply
unfoldable pub writable_rule : ℕ → ℕ → List ℕ → Verdict
writable_rule p q amounts = sheet_rule p q amounts then limit_rule 20 most_packed 1 amounts

-- Spec 10.2: and then 5; the last argument is how many bytes are lent
unfoldable pub pack_rule : ℕ → ℕ → List ℕ → ℕ → Verdict
pack_rule p q amounts bytes_lent = writable_rule p q amounts then refuse_if (bytes_lent <? field_bytes * (p * q)) 5 0

-- Spec 10.6: how many fields were written
unfoldable pub pack_answer : ℕ → ℕ → List ℕ → ℕ → Answer
pack_answer p q amounts bytes_lent = answer (pack_rule p q amounts bytes_lent) (p * q ∷ [])

-- Spec 10.5: what the lent slice is afterwards; it was old before
unfoldable pub pack_bytes : ℕ → ℕ → List ℕ → List ℕ → List ℕ
pack_bytes p q amounts old = on_fine (pack_rule p q amounts (length old)) (over (packed amounts) old) old
