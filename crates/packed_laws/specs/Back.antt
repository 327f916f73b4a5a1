-- Amounts that were written are read again, and fields that were read are written again: nothing is lost but the difference of plus and unsigned.
use Rattle.std.specs.Prelude.{◌≡◌, ◌≢◌, List, [], ◌∷◌, map, ℕ, ◌+◌, ◌*◌, ◌%◌, ◌<◌, length, get_or, take}
use Rattle.chain.specs.Verdict.{done}
use Rattle.chain.specs.Written.{over, in_a_row}
use Rattle.packed.specs.Field.{field_bytes, unsigned, written_back, fields_in}
use Rattle.packed.specs.Packed.{packed, unpack_answer, unpack_amounts, pack_answer, pack_bytes}

-- the bytes that were written into a lent slice, and the amounts that were read into one
abbrev pub bytes_written : ℕ → ℕ → List ℕ → List ℕ → List ℕ
bytes_written p q amounts old = take (field_bytes * (p * q)) (pack_bytes p q amounts old)

abbrev pub amounts_read : ℕ → ℕ → List ℕ → List ℕ → List ℕ
amounts_read p q bytes old = take (p * q) (unpack_amounts p q bytes old)

-- what reading gives of bytes that were written for amounts; the slice lent to it held `new`
pub record ReadBack (p q : ℕ) (amounts bytes new : List ℕ) : Type 0 where
  -- all fields are read
  pub all_read : unpack_answer p q bytes (length new) ≡ done (p * q ∷ [])
  -- and are the amounts
  pub amounts_same : unpack_amounts p q bytes new ≡ over amounts new

-- what writing gives of amounts that were read from bytes; the slice lent to it held `new`
pub record WrittenBack (p q : ℕ) (bytes amounts new : List ℕ) : Type 0 where
  -- all amounts are written
  pub all_written : pack_answer p q amounts (length new) ≡ done (p * q ∷ [])
  -- each as the field that it was read from, with plus for unsigned
  pub fields_same : pack_bytes p q amounts new ≡ over (in_a_row (map written_back (fields_in (p * q) bytes))) new
  -- so there are as many bytes
  pub as_many : length (packed amounts) ≡ field_bytes * (p * q)
  -- and each is the same, unless it is a field's last and has unsigned for its sign
  pub byte_same : (k j : ℕ) → k < p * q → j < field_bytes → (j ≡ 4 → get_or bytes (field_bytes * k + j) 0 % 16 ≢ unsigned)
      → get_or (packed amounts) (field_bytes * k + j) 0 ≡ get_or bytes (field_bytes * k + j) 0
  -- in which case it is 3 less
  pub byte_less : (k : ℕ) → k < p * q → get_or bytes (field_bytes * k + 4) 0 % 16 ≡ unsigned
      → get_or (packed amounts) (field_bytes * k + 4) 0 + 3 ≡ get_or bytes (field_bytes * k + 4) 0
