-- The refusals in words, as bytes of text (Spec 12.4). What the bytes spell stands above them.
use Rattle.std.specs.Prelude.{Bool, cond, List, [], ◌∷◌, ℕ, ◌-◌, length, get_or}
use Rattle.chain.specs.Tests.{◌<?◌}
use Rattle.chain.specs.Written.{over}

-- "no such refusal"
abbrev pub no_phrase : List ℕ
no_phrase = 110 ∷ 111 ∷ 32 ∷ 115 ∷ 117 ∷ 99 ∷ 104 ∷ 32 ∷ 114 ∷ 101 ∷ 102 ∷ 117 ∷ 115 ∷ 97 ∷ 108 ∷ []

-- "p or q out of range"
abbrev phrase1 : List ℕ
phrase1 = 112 ∷ 32 ∷ 111 ∷ 114 ∷ 32 ∷ 113 ∷ 32 ∷ 111 ∷ 117 ∷ 116 ∷ 32 ∷ 111 ∷ 102 ∷ 32 ∷ 114 ∷ 97 ∷ 110 ∷ 103 ∷ 101 ∷ []

-- "amounts are not p times q"
abbrev phrase2 : List ℕ
phrase2 = 97 ∷ 109 ∷ 111 ∷ 117 ∷ 110 ∷ 116 ∷ 115 ∷ 32 ∷ 97 ∷ 114 ∷ 101 ∷ 32 ∷ 110 ∷ 111 ∷ 116 ∷ 32 ∷ 112 ∷ 32 ∷ 116 ∷ 105 ∷ 109 ∷ 101 ∷ 115 ∷ 32 ∷ 113 ∷ []

-- "method or parameter"
abbrev phrase3 : List ℕ
phrase3 = 109 ∷ 101 ∷ 116 ∷ 104 ∷ 111 ∷ 100 ∷ 32 ∷ 111 ∷ 114 ∷ 32 ∷ 112 ∷ 97 ∷ 114 ∷ 97 ∷ 109 ∷ 101 ∷ 116 ∷ 101 ∷ 114 ∷ []

-- "more than 16,000 steps"
abbrev phrase4 : List ℕ
phrase4 = 109 ∷ 111 ∷ 114 ∷ 101 ∷ 32 ∷ 116 ∷ 104 ∷ 97 ∷ 110 ∷ 32 ∷ 49 ∷ 54 ∷ 44 ∷ 48 ∷ 48 ∷ 48 ∷ 32 ∷ 115 ∷ 116 ∷ 101 ∷ 112 ∷ 115 ∷ []

-- "a lent slice too short"
abbrev phrase5 : List ℕ
phrase5 = 97 ∷ 32 ∷ 108 ∷ 101 ∷ 110 ∷ 116 ∷ 32 ∷ 115 ∷ 108 ∷ 105 ∷ 99 ∷ 101 ∷ 32 ∷ 116 ∷ 111 ∷ 111 ∷ 32 ∷ 115 ∷ 104 ∷ 111 ∷ 114 ∷ 116 ∷ []

-- "file under 4 bytes, or not its stated length"
abbrev phrase6 : List ℕ
phrase6 = 102 ∷ 105 ∷ 108 ∷ 101 ∷ 32 ∷ 117 ∷ 110 ∷ 100 ∷ 101 ∷ 114 ∷ 32 ∷ 52 ∷ 32 ∷ 98 ∷ 121 ∷ 116 ∷ 101 ∷ 115 ∷ 44 ∷ 32 ∷ 111 ∷ 114 ∷ 32 ∷ 110 ∷ 111 ∷ 116 ∷ 32 ∷ 105 ∷ 116 ∷ 115 ∷ 32 ∷ 115 ∷ 116 ∷ 97 ∷ 116 ∷ 101 ∷ 100 ∷ 32 ∷ 108 ∷ 101 ∷ 110 ∷ 103 ∷ 116 ∷ 104 ∷ []

-- "edition"
abbrev phrase7 : List ℕ
phrase7 = 101 ∷ 100 ∷ 105 ∷ 116 ∷ 105 ∷ 111 ∷ 110 ∷ []

-- "a filling bit set"
abbrev phrase8 : List ℕ
phrase8 = 97 ∷ 32 ∷ 102 ∷ 105 ∷ 108 ∷ 108 ∷ 105 ∷ 110 ∷ 103 ∷ 32 ∷ 98 ∷ 105 ∷ 116 ∷ 32 ∷ 115 ∷ 101 ∷ 116 ∷ []

-- "operand 0"
abbrev phrase9 : List ℕ
phrase9 = 111 ∷ 112 ∷ 101 ∷ 114 ∷ 97 ∷ 110 ∷ 100 ∷ 32 ∷ 48 ∷ []

-- "operand not below its own value"
abbrev phrase10 : List ℕ
phrase10 = 111 ∷ 112 ∷ 101 ∷ 114 ∷ 97 ∷ 110 ∷ 100 ∷ 32 ∷ 110 ∷ 111 ∷ 116 ∷ 32 ∷ 98 ∷ 101 ∷ 108 ∷ 111 ∷ 119 ∷ 32 ∷ 105 ∷ 116 ∷ 115 ∷ 32 ∷ 111 ∷ 119 ∷ 110 ∷ 32 ∷ 118 ∷ 97 ∷ 108 ∷ 117 ∷ 101 ∷ []

-- "first operand smaller than second"
abbrev phrase11 : List ℕ
phrase11 = 102 ∷ 105 ∷ 114 ∷ 115 ∷ 116 ∷ 32 ∷ 111 ∷ 112 ∷ 101 ∷ 114 ∷ 97 ∷ 110 ∷ 100 ∷ 32 ∷ 115 ∷ 109 ∷ 97 ∷ 108 ∷ 108 ∷ 101 ∷ 114 ∷ 32 ∷ 116 ∷ 104 ∷ 97 ∷ 110 ∷ 32 ∷ 115 ∷ 101 ∷ 99 ∷ 111 ∷ 110 ∷ 100 ∷ []

-- "output above the last value"
abbrev phrase12 : List ℕ
phrase12 = 111 ∷ 117 ∷ 116 ∷ 112 ∷ 117 ∷ 116 ∷ 32 ∷ 97 ∷ 98 ∷ 111 ∷ 118 ∷ 101 ∷ 32 ∷ 116 ∷ 104 ∷ 101 ∷ 32 ∷ 108 ∷ 97 ∷ 115 ∷ 116 ∷ 32 ∷ 118 ∷ 97 ∷ 108 ∷ 117 ∷ 101 ∷ []

-- "exponent too large"
abbrev phrase13 : List ℕ
phrase13 = 101 ∷ 120 ∷ 112 ∷ 111 ∷ 110 ∷ 101 ∷ 110 ∷ 116 ∷ 32 ∷ 116 ∷ 111 ∷ 111 ∷ 32 ∷ 108 ∷ 97 ∷ 114 ∷ 103 ∷ 101 ∷ []

-- "an output's exponents are not its payslip"
abbrev phrase14 : List ℕ
phrase14 = 97 ∷ 110 ∷ 32 ∷ 111 ∷ 117 ∷ 116 ∷ 112 ∷ 117 ∷ 116 ∷ 39 ∷ 115 ∷ 32 ∷ 101 ∷ 120 ∷ 112 ∷ 111 ∷ 110 ∷ 101 ∷ 110 ∷ 116 ∷ 115 ∷ 32 ∷ 97 ∷ 114 ∷ 101 ∷ 32 ∷ 110 ∷ 111 ∷ 116 ∷ 32 ∷ 105 ∷ 116 ∷ 115 ∷ 32 ∷ 112 ∷ 97 ∷ 121 ∷ 115 ∷ 108 ∷ 105 ∷ 112 ∷ []

-- "modulus 0"
abbrev phrase15 : List ℕ
phrase15 = 109 ∷ 111 ∷ 100 ∷ 117 ∷ 108 ∷ 117 ∷ 115 ∷ 32 ∷ 48 ∷ []

-- "bases not p, or one not below the modulus"
abbrev phrase16 : List ℕ
phrase16 = 98 ∷ 97 ∷ 115 ∷ 101 ∷ 115 ∷ 32 ∷ 110 ∷ 111 ∷ 116 ∷ 32 ∷ 112 ∷ 44 ∷ 32 ∷ 111 ∷ 114 ∷ 32 ∷ 111 ∷ 110 ∷ 101 ∷ 32 ∷ 110 ∷ 111 ∷ 116 ∷ 32 ∷ 98 ∷ 101 ∷ 108 ∷ 111 ∷ 119 ∷ 32 ∷ 116 ∷ 104 ∷ 101 ∷ 32 ∷ 109 ∷ 111 ∷ 100 ∷ 117 ∷ 108 ∷ 117 ∷ 115 ∷ []

-- "column counts differ"
abbrev phrase17 : List ℕ
phrase17 = 99 ∷ 111 ∷ 108 ∷ 117 ∷ 109 ∷ 110 ∷ 32 ∷ 99 ∷ 111 ∷ 117 ∷ 110 ∷ 116 ∷ 115 ∷ 32 ∷ 100 ∷ 105 ∷ 102 ∷ 102 ∷ 101 ∷ 114 ∷ []

-- "a digit above 9, or a sign that is not C, D or F"
abbrev phrase18 : List ℕ
phrase18 = 97 ∷ 32 ∷ 100 ∷ 105 ∷ 103 ∷ 105 ∷ 116 ∷ 32 ∷ 97 ∷ 98 ∷ 111 ∷ 118 ∷ 101 ∷ 32 ∷ 57 ∷ 44 ∷ 32 ∷ 111 ∷ 114 ∷ 32 ∷ 97 ∷ 32 ∷ 115 ∷ 105 ∷ 103 ∷ 110 ∷ 32 ∷ 116 ∷ 104 ∷ 97 ∷ 116 ∷ 32 ∷ 105 ∷ 115 ∷ 32 ∷ 110 ∷ 111 ∷ 116 ∷ 32 ∷ 67 ∷ 44 ∷ 32 ∷ 68 ∷ 32 ∷ 111 ∷ 114 ∷ 32 ∷ 70 ∷ []

-- "sign D, minus"
abbrev phrase19 : List ℕ
phrase19 = 115 ∷ 105 ∷ 103 ∷ 110 ∷ 32 ∷ 68 ∷ 44 ∷ 32 ∷ 109 ∷ 105 ∷ 110 ∷ 117 ∷ 115 ∷ []

-- "amount above 999,999,999"
abbrev phrase20 : List ℕ
phrase20 = 97 ∷ 109 ∷ 111 ∷ 117 ∷ 110 ∷ 116 ∷ 32 ∷ 97 ∷ 98 ∷ 111 ∷ 118 ∷ 101 ∷ 32 ∷ 57 ∷ 57 ∷ 57 ∷ 44 ∷ 57 ∷ 57 ∷ 57 ∷ 44 ∷ 57 ∷ 57 ∷ 57 ∷ []

-- "neither a digit nor a separator"
abbrev phrase101 : List ℕ
phrase101 = 110 ∷ 101 ∷ 105 ∷ 116 ∷ 104 ∷ 101 ∷ 114 ∷ 32 ∷ 97 ∷ 32 ∷ 100 ∷ 105 ∷ 103 ∷ 105 ∷ 116 ∷ 32 ∷ 110 ∷ 111 ∷ 114 ∷ 32 ∷ 97 ∷ 32 ∷ 115 ∷ 101 ∷ 112 ∷ 97 ∷ 114 ∷ 97 ∷ 116 ∷ 111 ∷ 114 ∷ []

-- "number above 4,294,967,295"
abbrev phrase102 : List ℕ
phrase102 = 110 ∷ 117 ∷ 109 ∷ 98 ∷ 101 ∷ 114 ∷ 32 ∷ 97 ∷ 98 ∷ 111 ∷ 118 ∷ 101 ∷ 32 ∷ 52 ∷ 44 ∷ 50 ∷ 57 ∷ 52 ∷ 44 ∷ 57 ∷ 54 ∷ 55 ∷ 44 ∷ 50 ∷ 57 ∷ 53 ∷ []

-- "cut off: the last line has no newline"
abbrev phrase103 : List ℕ
phrase103 = 99 ∷ 117 ∷ 116 ∷ 32 ∷ 111 ∷ 102 ∷ 102 ∷ 58 ∷ 32 ∷ 116 ∷ 104 ∷ 101 ∷ 32 ∷ 108 ∷ 97 ∷ 115 ∷ 116 ∷ 32 ∷ 108 ∷ 105 ∷ 110 ∷ 101 ∷ 32 ∷ 104 ∷ 97 ∷ 115 ∷ 32 ∷ 110 ∷ 111 ∷ 32 ∷ 110 ∷ 101 ∷ 119 ∷ 108 ∷ 105 ∷ 110 ∷ 101 ∷ []

-- "a line with more or fewer amounts than the first"
abbrev phrase104 : List ℕ
phrase104 = 97 ∷ 32 ∷ 108 ∷ 105 ∷ 110 ∷ 101 ∷ 32 ∷ 119 ∷ 105 ∷ 116 ∷ 104 ∷ 32 ∷ 109 ∷ 111 ∷ 114 ∷ 101 ∷ 32 ∷ 111 ∷ 114 ∷ 32 ∷ 102 ∷ 101 ∷ 119 ∷ 101 ∷ 114 ∷ 32 ∷ 97 ∷ 109 ∷ 111 ∷ 117 ∷ 110 ∷ 116 ∷ 115 ∷ 32 ∷ 116 ∷ 104 ∷ 97 ∷ 110 ∷ 32 ∷ 116 ∷ 104 ∷ 101 ∷ 32 ∷ 102 ∷ 105 ∷ 114 ∷ 115 ∷ 116 ∷ []

-- "decimal point or grouping mark"
abbrev phrase105 : List ℕ
phrase105 = 100 ∷ 101 ∷ 99 ∷ 105 ∷ 109 ∷ 97 ∷ 108 ∷ 32 ∷ 112 ∷ 111 ∷ 105 ∷ 110 ∷ 116 ∷ 32 ∷ 111 ∷ 114 ∷ 32 ∷ 103 ∷ 114 ∷ 111 ∷ 117 ∷ 112 ∷ 105 ∷ 110 ∷ 103 ∷ 32 ∷ 109 ∷ 97 ∷ 114 ∷ 107 ∷ []

-- "sign"
abbrev phrase106 : List ℕ
phrase106 = 115 ∷ 105 ∷ 103 ∷ 110 ∷ []

-- "no amount between two separators"
abbrev phrase107 : List ℕ
phrase107 = 110 ∷ 111 ∷ 32 ∷ 97 ∷ 109 ∷ 111 ∷ 117 ∷ 110 ∷ 116 ∷ 32 ∷ 98 ∷ 101 ∷ 116 ∷ 119 ∷ 101 ∷ 101 ∷ 110 ∷ 32 ∷ 116 ∷ 119 ∷ 111 ∷ 32 ∷ 115 ∷ 101 ∷ 112 ∷ 97 ∷ 114 ∷ 97 ∷ 116 ∷ 111 ∷ 114 ∷ 115 ∷ []

-- those of the specification's refusals by their numbers (Spec 10.1), 0 for none
abbrev pub phrases : List (List ℕ)
phrases = no_phrase ∷ phrase1 ∷ phrase2 ∷ phrase3 ∷ phrase4 ∷ phrase5 ∷ phrase6 ∷ phrase7 ∷ phrase8 ∷ phrase9 ∷ phrase10 ∷ phrase11 ∷ phrase12 ∷ phrase13 ∷ phrase14 ∷ phrase15 ∷ phrase16 ∷ phrase17 ∷ phrase18 ∷ phrase19 ∷ phrase20 ∷ []

-- those of a text's faults, whose numbers begin at firstFault
abbrev pub first_fault : ℕ
first_fault = 101

abbrev pub fault_phrases : List (List ℕ)
fault_phrases = phrase101 ∷ phrase102 ∷ phrase103 ∷ phrase104 ∷ phrase105 ∷ phrase106 ∷ phrase107 ∷ []

-- the phrase of a number
unfoldable pub phrase : ℕ → List ℕ
phrase number = cond (number <? first_fault) (get_or phrases number no_phrase) (get_or fault_phrases (number - first_fault) no_phrase)

-- a text of so many bytes is too short for the phrase
unfoldable pub lacks : ℕ → ℕ → Bool
lacks number room = room <? length (phrase number)

-- what asking for a phrase returns, what the eight words are, and what the text is then
unfoldable pub phrase_number : ℕ → ℕ → ℕ
phrase_number number room = cond (lacks number room) 5 0

unfoldable pub phrase_words : ℕ → ℕ → List ℕ
phrase_words number room = cond (lacks number room) (0 ∷ 0 ∷ 0 ∷ 0 ∷ 0 ∷ 0 ∷ 0 ∷ 0 ∷ []) (length (phrase number) ∷ 0 ∷ 0 ∷ 0 ∷ 0 ∷ 0 ∷ 0 ∷ 0 ∷ [])

unfoldable pub phrase_text : ℕ → List ℕ → List ℕ
phrase_text number text = cond (lacks number (length text)) text (over (phrase number) text)
