-- Where a place of a text is, what stands before and at the end of a text, and what a text answers (Spec 12, 12.3).
use Rattle.std.specs.Prelude.{Bool, false, cond, List, [], ◌∷◌, ℕ, ◌+◌, ◌-◌, length, get_or, take, drop, Result, Ok, Err}
use Rattle.chain.specs.Tests.{◌=?◌, ◌≠?◌, ◌or◌}
use Rattle.decimal.specs.Decimal.{newline}
use Rattle.places.specs.Faults.{number_of}
use Rattle.places.specs.declared.Fault.{Fault}
use Rattle.places.specs.declared.Fault.TheVariants.{CutOff}
use Rattle.places.specs.declared.Refusal.{Refusal}
use Rattle.places.specs.declared.Spot.{Spot}

-- where a text goes on after a byte: a newline begins a line
unfoldable pub after_byte : Spot → ℕ → Spot
after_byte spot b = cond (b =? newline) (record { line = spot.line + 1; column = 1 }) (record { line = spot.line; column = spot.column + 1 })

-- after some bytes
abbrev pub after_bytes : Spot → List ℕ → Spot
after_bytes spot [] = spot
after_bytes spot (b ∷ r) = after_bytes (after_byte spot b) r

-- the line and the column of a place: 1 and the newlines before it, 1 and the bytes since the last of them
unfoldable pub spot_of : List ℕ → ℕ → Spot
spot_of text place = after_bytes (record { line = 1; column = 1 }) (take (place - 1) text)

-- a text goes on after a byte order mark
unfoldable pub mark_length : List ℕ → ℕ
mark_length text = cond (get_or text 0 0 ≠? 239 or get_or text 1 0 ≠? 187 or get_or text 2 0 ≠? 191) 0 3

abbrev pub body_of : List ℕ → List ℕ
body_of text = drop (mark_length text) text

-- a text that has bytes and does not end with a newline may have been cut off
unfoldable pub is_cut : List ℕ → Bool
is_cut text = cond (length text =? 0) false (get_or text (length text - 1) 0 ≠? newline)

-- the refusal of a text by a fault at a spot
abbrev pub refused_at : {F : Type 0} → F → Spot → ℕ → ℕ → Refusal F
refused_at f s seen sought = record { fault = f; spot = s; found = seen; wanted = sought }

-- that of a text cut off, just past its last byte
unfoldable pub cut_text : List ℕ → Refusal Fault
cut_text text = refused_at CutOff (spot_of text (length text + 1)) 0 0

-- what a text answers: two values, or a refusal at a line and a column
abbrev pub Read : Type 0
Read = Result (ℕ × ℕ) (Refusal Fault)

abbrev pub values : ℕ → ℕ → Read
values a b = Ok (a, b)

abbrev pub refused : Fault → ℕ → ℕ → ℕ → ℕ → Read
refused fault l c seen wanted = Err (refused_at fault (record { line = l; column = c }) seen wanted)

-- what is returned: 0, or the number that the refusal's fault has
abbrev pub number_by : {F : Type 0} → (F → ℕ) → Result (ℕ × ℕ) (Refusal F) → ℕ
number_by number (Ok v) = 0
number_by number (Err r) = number r.fault

abbrev pub number_told : Read → ℕ
number_told = number_by number_of

-- what the eight words are: the values; or line, column, what was found and what was wanted; then zeros
abbrev pub words_told : {F : Type 0} → Result (ℕ × ℕ) (Refusal F) → List ℕ
words_told (Ok v) = v.0 ∷ v.1 ∷ 0 ∷ 0 ∷ 0 ∷ 0 ∷ 0 ∷ 0 ∷ []
words_told (Err r) = r.spot.line ∷ r.spot.column ∷ r.found ∷ r.wanted ∷ 0 ∷ 0 ∷ 0 ∷ 0 ∷ []
