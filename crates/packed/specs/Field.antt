-- Packed decimal: a field, as the ledger host keeps an amount (Req 02; Spec 1.4).
use Rattle.std.specs.Prelude.{Bool, false, not, cond, List, [], ◌∷◌, ◌++◌, ℕ, zero, suc, ◌+◌, ◌*◌, ◌/◌, ◌%◌, ◌^◌, get_or, take, drop, set}
use Rattle.chain.specs.Tests.{◌<?◌, ◌=?◌, ◌or◌}
use Rattle.chain.specs.Verdict.{Verdict, ◌then◌, refuse_if}

-- Spec 1.4: how many bytes a field has, how many of its half-bytes are digits, and the largest amount that these can say
abbrev pub field_bytes : ℕ
field_bytes = 5

abbrev pub field_digits : ℕ
field_digits = 9

abbrev pub most_packed : ℕ
most_packed = 999999999

-- Spec 1.4: the signs
abbrev pub plus : ℕ
plus = 12

abbrev pub minus : ℕ
minus = 13

abbrev pub unsigned : ℕ
unsigned = 15

-- Spec 1.4: the half-bytes of bytes, the high one of each first
abbrev pub halves : List ℕ → List ℕ
halves [] = []
halves (b ∷ r) = b / 16 ∷ b % 16 ∷ halves r

-- and the bytes of half-bytes; an odd last one belongs to none
abbrev pub joined : List ℕ → List ℕ
joined [] = []
joined (h ∷ []) = []
joined (h ∷ l ∷ r) = (h * 16 + l) ∷ joined r

-- Spec 1.4: the digits of a field stand first, its sign after them
unfoldable pub digits_of : List ℕ → List ℕ
digits_of field = take field_digits (halves field)

unfoldable pub sign_of : List ℕ → ℕ
sign_of field = get_or (halves field) field_digits 0

-- the number that decimal digits say after others that say x, the highest first
abbrev pub said_after : ℕ → List ℕ → ℕ
said_after x [] = x
said_after x (d ∷ r) = said_after (x * 10 + d) r

-- Spec 1.4: the amount of a field
unfoldable pub amount_of : List ℕ → ℕ
amount_of field = said_after 0 (digits_of field)

-- the last n decimal digits of x, the highest first
abbrev pub last_digits : ℕ → ℕ → List ℕ
last_digits zero x = []
last_digits (suc n) x = x / 10 ^ n % 10 ∷ last_digits n x

-- Spec 1.4, 7.5: the field that is written for an amount: its digits, and plus
unfoldable pub field_of : ℕ → List ℕ
field_of amount = joined (last_digits field_digits amount ++ plus ∷ [])

-- some number of a list is above 9
abbrev pub any_above9 : List ℕ → Bool
any_above9 [] = false
any_above9 (d ∷ r) = 9 <? d or any_above9 r

-- Spec 1.4: a sign is plus, minus or unsigned
unfoldable pub is_sign : ℕ → Bool
is_sign s = s =? plus or s =? minus or s =? unsigned

-- Spec 10.1, 10.2: field i: 18 for a digit above 9 or for what is no sign, then 19 for minus
unfoldable pub field_rule : ℕ → List ℕ → Verdict
field_rule i field =
    refuse_if (any_above9 (digits_of field) or not (is_sign (sign_of field))) 18 i
    then refuse_if (sign_of field =? minus) 19 i

-- Spec 7.5: a field as it is written back once it was read: unsigned has become plus, and all else is the same
unfoldable pub written_back : List ℕ → List ℕ
written_back field = joined (set (halves field) field_digits (cond (sign_of field =? unsigned) plus (sign_of field)))

-- Spec 7.5: the field that begins at a byte, counted from 0, and the first m fields of bytes, one after the other
abbrev pub field_from : List ℕ → ℕ → List ℕ
field_from bytes at = take field_bytes (drop at bytes)

abbrev pub fields_in : ℕ → List ℕ → List (List ℕ)
fields_in zero bytes = []
fields_in (suc m) bytes = take field_bytes bytes ∷ fields_in m (drop field_bytes bytes)
