-- Inner vocabulary: what the functions of this crate ask. Nobody has to believe it to believe an entry point's promise.
use Rattle.std.specs.Prelude.{List, ℕ, ◌+◌, ◌*◌, ◌/◌, ◌%◌, ◌≤◌, ◌<◌, length, get_or}
use Rattle.packed.specs.Field.{field_bytes, most_packed}

-- the byte of two digits that say x
abbrev pub pair_of : ℕ → ℕ
pair_of x = x / 10 * 16 + x % 10

-- what putting a field asks: that nine digits can say the amount, and a cell for each byte
pub record FieldAsked (amount at : ℕ) (bytes : List ℕ) : Type 0 where
  pub amount_low : amount ≤ most_packed
  pub room : at + field_bytes ≤ length bytes

-- and putting those of all amounts
pub record StoreAsked (amounts bytes : List ℕ) : Type 0 where
  pub amounts_low : (i : ℕ) → i < length amounts → get_or amounts i 0 ≤ most_packed
  pub room : field_bytes * length amounts ≤ length bytes
