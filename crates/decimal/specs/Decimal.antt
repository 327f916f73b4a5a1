-- Numbers as decimal text, the bytes that part them, and the word of a refusal (Spec 9).
use Rattle.std.specs.Prelude.{List, [], ◌∷◌, ℕ, zero, suc, ◌+◌, ◌/◌, ◌%◌}

abbrev pub blank : ℕ
blank = 32

abbrev pub newline : ℕ
newline = 10

-- the word "refused" and a blank
abbrev pub refused_word : List ℕ
refused_word = 114 ∷ 101 ∷ 102 ∷ 117 ∷ 115 ∷ 101 ∷ 100 ∷ blank ∷ []

-- the decimal digits of x as text, before others, as far as the first argument allows
abbrev pub decimal_onto : ℕ → ℕ → List ℕ → List ℕ
decimal_onto zero x text = text
decimal_onto (suc f) zero text = text
decimal_onto (suc f) (suc x) text = decimal_onto f (suc x / 10) ((48 + suc x % 10) ∷ text)

-- a number in decimal; 0 is "0"
unfoldable pub decimal : ℕ → List ℕ
decimal zero = 48 ∷ []
decimal (suc x) = decimal_onto (suc x) (suc x) []
