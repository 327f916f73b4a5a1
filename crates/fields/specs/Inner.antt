-- Inner vocabulary: what reading and writing a list of fields of one width ask for and leave. Nobody has to believe it to believe an entry point's promise.
use Rattle.std.specs.Prelude.{◌≡◌, List, ℕ, ◌+◌, ◌*◌, ◌^◌, ◌≤◌, ◌<◌, length, take, get_or}
use Rattle.chain.specs.Written.{over}
use Rattle.bits.specs.Bits.{bytes_bits, fields_at}
use Rattle.bits.specs.Inner.{filed}

-- how wide the fields of a list may be, so that two of them are read and written as one (`widest_field`)
abbrev pub widest_number : ℕ
widest_number = 28

-- a buffer whose bits from at on are zero to the end of the byte
abbrev pub Clean : List ℕ → ℕ → Type 0
Clean buf at = filed (take at (bytes_bits buf)) buf ≡ buf

-- fields of w bits for the numbers of l have room in buf at position at
pub record FieldsFill (buf : List ℕ) (at w : ℕ) (l : List ℕ) : Type 0 where
  pub narrow : w ≤ widest_number
  pub some : 0 < w
  pub within : at + length l * w ≤ 8 * length buf
  pub fits : at + length l * w < 2 ^ 64
  pub small : (k : ℕ) → get_or l k 0 < 2 ^ w
  pub clean : Clean buf at

-- so have fields for the first n numbers of l
pub record FrontFill (buf : List ℕ) (at w n : ℕ) (l : List ℕ) : Type 0 where
  pub there : n ≤ length l
  pub fill : FieldsFill buf at w (take n l)

-- n fields of w bits, one at least, lie within the file from position at on, and out has a cell for each
pub record FieldsRoom (file : List ℕ) (at w n : ℕ) (out : List ℕ) : Type 0 where
  pub narrow : w ≤ widest_number
  pub some : 0 < w
  pub within : at + n * w ≤ 8 * length file
  pub fits : at + n * w < 2 ^ 64
  pub room : n ≤ length out

-- and the file has eight bytes
pub record LongRoom (file : List ℕ) (at w n : ℕ) (out : List ℕ) : Type 0 where
  pub long : 8 ≤ length file
  pub room : FieldsRoom file at w n out

-- they were read into new, which was old
pub record FieldsTaken (file : List ℕ) (at w n : ℕ) (old new : List ℕ) (next : ℕ) : Type 0 where
  pub is : new ≡ over (fields_at file at w n) old
  pub moved : next ≡ at + n * w
