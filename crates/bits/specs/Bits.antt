-- Bit fields, the highest bit of a number and of a byte first (Spec 5.1). A bit is a Bool.
use Rattle.std.specs.Prelude.{Bool, true, false, List, [], ◌∷◌, ◌++◌, ℕ, zero, suc, ◌+◌, ◌*◌, ◌/◌, ◌%◌, ◌^◌, length, take, drop, eqb}

abbrev pub bit : Bool → ℕ
bit true = 1
bit false = 0

abbrev pub odd : ℕ → Bool
odd x = eqb (x % 2) 1

-- a field: the lowest w bits of x, most significant first
unfoldable pub bits : ℕ → ℕ → List Bool
bits zero x = []
bits (suc w) x = odd (x / 2 ^ w) ∷ bits w x

-- a field for each number
unfoldable pub fields : ℕ → List ℕ → List Bool
unfolding bits
fields w [] = []
fields w (x ∷ r) = bits w x ++ fields w r

-- the number that bits spell
unfoldable pub value : List Bool → ℕ
value [] = 0
value (b ∷ r) = bit b * 2 ^ length r + value r

-- the bits of bytes
unfoldable pub bytes_bits : List ℕ → List Bool
unfolding fields
bytes_bits bytes = fields 8 bytes

-- the first n bits, filled up with zero bits
unfoldable pub front : ℕ → List Bool → List Bool
front zero b = []
front (suc n) [] = false ∷ front n []
front (suc n) (x ∷ b) = x ∷ front n b

-- the first n bytes that bits fill, with zero bits after the last one (Spec 5.3)
unfoldable pub pack : ℕ → List Bool → List ℕ
unfolding value front
pack zero b = []
pack (suc n) b = value (front 8 b) ∷ pack n (drop 8 b)

-- how many bytes n bits fill
abbrev pub bytes_for : ℕ → ℕ
bytes_for n = (n + 7) / 8

-- the field of w bits at bit position at
abbrev pub field_at : List ℕ → ℕ → ℕ → ℕ
field_at bytes at w = value (take w (drop at (bytes_bits bytes)))

-- the next n fields of w bits
unfoldable pub fields_at : List ℕ → ℕ → ℕ → ℕ → List ℕ
fields_at bytes at w zero = []
fields_at bytes at w (suc n) = field_at bytes at w ∷ fields_at bytes (at + w) w n
