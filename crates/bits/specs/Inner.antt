-- Inner vocabulary: what the cursor, the reader and their helpers ask of a buffer and leave in it. Nobody has to believe it to believe an entry point's promise.
use Rattle.std.specs.Prelude.{◌≡◌, Bool, List, [], ◌∷◌, ◌++◌, ℕ, zero, suc, ◌+◌, ◌*◌, ◌^◌, ◌≤◌, ◌<◌, length, take, get_or}
use Rattle.chain.specs.Written.{over}
use Rattle.bits.specs.Bits.{value, bytes_bits, pack, bytes_for, field_at}

-- how wide a field may be, so that eight bytes cover it from any bit on, with a bit to spare
abbrev pub widest_field : ℕ
widest_field = 56

-- a field of w bits at position at is short enough, lies within the file, and its end is a usize
pub record FieldRoom (file : List ℕ) (at w : ℕ) : Type 0 where
  pub narrow : w ≤ widest_field
  pub within : at + w ≤ 8 * length file
  pub fits : at + w < 2 ^ 64

-- v is the field, and next the position past it
pub record FieldTaken (file : List ℕ) (at w v next : ℕ) : Type 0 where
  pub is : v ≡ field_at file at w
  pub small : v < 2 ^ w
  pub moved : next ≡ at + w

-- two fields of w bits, one at least, have room there one behind the other, and the file has eight bytes
pub record TwoRoom (file : List ℕ) (at w : ℕ) : Type 0 where
  pub long : 8 ≤ length file
  pub some : 0 < w
  pub room : FieldRoom file at (2 * w)

-- v and u are the next two fields of w bits, and next the position past both
pub record TwoTaken (file : List ℕ) (at w v u next : ℕ) : Type 0 where
  pub first : FieldTaken file at w v (at + w)
  pub second : FieldTaken file (at + w) w u next

-- a field of w bits, one at least, whose value is v, has room at position at
pub record FieldFill (buf : List ℕ) (at w v : ℕ) : Type 0 where
  pub narrow : w ≤ widest_field
  pub within : at + w ≤ 8 * length buf
  pub fits : at + w < 2 ^ 64
  pub some : 0 < w
  pub small : v < 2 ^ w

-- a buffer that begins with bits, filled up to the byte, and goes on as it was
abbrev pub filed : List Bool → List ℕ → List ℕ
filed b old = over (pack (bytes_for (length b)) b) old

-- w bits b were added to the bits before position at, with zero bits after them to the end of their last byte
pub record FieldStored (old : List ℕ) (at w : ℕ) (b : List Bool) (new : List ℕ) (next : ℕ) : Type 0 where
  pub is : new ≡ filed (take at (bytes_bits old) ++ b) old
  pub moved : next ≡ at + w

-- n bytes from index i on, with 0 past the end
unfoldable pub window : ℕ → List ℕ → ℕ → List ℕ
window zero l i = []
window (suc n) l i = get_or l i 0 ∷ window n l (suc i)

-- fewer than eight bytes are left in the file from i on
pub record LastBytes (file : List ℕ) (i : ℕ) : Type 0 where
  pub there : i ≤ length file
  pub few : length file < i + 8

-- r is the byte at i
pub record ByteAt (file : List ℕ) (i r : ℕ) : Type 0 where
  pub is : r ≡ get_or file i 0
  pub small : r < 256

-- r is the number of the n bytes from i on
pub record WordAt (n : ℕ) (file : List ℕ) (i r : ℕ) : Type 0 where
  pub is : r ≡ value (bytes_bits (window n file i))
  pub small : r < 2 ^ (n * 8)
