-- Texts of numbers, read byte by byte up to their end or to the first fault (Spec 12.1, 12.2).
use Rattle.std.specs.Prelude.{cond, List, [], ◌∷◌, ℕ, suc, ◌+◌, ◌-◌, ◌*◌, Result, Ok, Err}
use Rattle.chain.specs.Tests.{◌<?◌, ◌=?◌, ◌or◌}
use Rattle.chain.specs.Chain.{most_amount}
use Rattle.decimal.specs.Decimal.{blank, newline}
use Rattle.places.specs.declared.Fault.{Fault}
use Rattle.places.specs.declared.Fault.TheVariants.{NoRoom, Unreadable, TooLarge, Grouped, Signed, NoAmount}
use Rattle.places.specs.Places.{spot_of, body_of, is_cut, refused_at, cut_text, Read, values}
use Rattle.text.specs.declared.Parting.{Parting}
use Rattle.text.specs.declared.Parting.TheVariants.{Free, Words, Fields}
use Rattle.text.specs.declared.Kind.{Kind}
use Rattle.text.specs.declared.Kind.TheVariants.{Blank, Padding, Separator, Digit, Other}
use Rattle.text.specs.declared.Making.{Making}
use Rattle.text.specs.declared.Making.TheVariants.{Nothing, Number, Padded}
use Rattle.text.specs.declared.Effect.{Effect}
use Rattle.text.specs.declared.Effect.TheVariants.{Becomes, Ends, Faulty}
use Rattle.text.specs.declared.Flaw.{Flaw}

-- the bytes of a tab, a carriage return, and the digits 0 and 9
abbrev pub tab : ℕ
tab = 9

abbrev pub return : ℕ
return = 13

abbrev pub first_digit : ℕ
first_digit = 48

abbrev pub last_digit : ℕ
last_digit = 57

-- the fault of a byte that is part of no text: ' , . _ group or part a number's digits, + - are signs
unfoldable pub fault_of : ℕ → Fault
fault_of b =
    cond (b =? 39 or b =? 44 or b =? 46 or b =? 95) Grouped
    (cond (b =? 43 or b =? 45) Signed
    Unreadable)

-- what a byte is: a digit or a fault
unfoldable pub plain_kind : ℕ → Kind
plain_kind b = cond (b <? first_digit or last_digit <? b) (Other (fault_of b) b) (Digit (b - first_digit))

-- with numbers parted as words
unfoldable pub word_kind : ℕ → Kind
word_kind b = cond (b =? blank or b =? tab) Blank (plain_kind b)

-- with words on several lines
unfoldable pub free_kind : ℕ → Kind
free_kind b = cond (b =? newline or b =? return) Blank (word_kind b)

-- with fields that a separator s ends
unfoldable pub field_kind : ℕ → ℕ → Kind
field_kind s b =
    cond (b =? s) Separator
    (cond (b =? blank) Padding
    (plain_kind b))

abbrev pub kind_of : Parting → ℕ → Kind
kind_of Free b = free_kind b
kind_of Words b = word_kind b
kind_of (Fields s) b = field_kind s b

-- the end of a text ends its last number as a byte would
abbrev pub end_kind : Parting → Kind
end_kind Free = Blank
end_kind Words = Blank
end_kind (Fields s) = Separator

-- a text as kinds, the last of them its end
abbrev pub kinds_of : Parting → List ℕ → List Kind
kinds_of by [] = end_kind by ∷ []
kinds_of by (b ∷ r) = kind_of by b ∷ kinds_of by r

-- what a byte does to the number in the making: a blank between words
abbrev pub parted : Making → Effect
parted Nothing = Becomes Nothing
parted (Number x) = Ends x
parted (Padded x) = Ends x

-- a separator, which no empty field may stand before
abbrev pub closed : Making → Effect
closed Nothing = Faulty NoAmount 0 0
closed (Number x) = Ends x
closed (Padded x) = Ends x

-- a blank in a field
abbrev pub padded : Making → Effect
padded Nothing = Becomes Nothing
padded (Number x) = Becomes (Padded x)
padded (Padded x) = Becomes (Padded x)

-- a digit more for the number x
unfoldable pub grown : ℕ → ℕ → Effect
grown x d = cond (most_amount <? 10 * x + d) (Faulty TooLarge 0 0) (Becomes (Number (10 * x + d)))

-- the first digit of a number where c are read and there is room for n
unfoldable pub begun : ℕ → ℕ → ℕ → Effect
begun c n d = cond (c <? n) (Becomes (Number d)) (Faulty NoRoom n (n + 1))

-- a digit: in a field none may follow after a blank
abbrev pub lengthened : ℕ → ℕ → ℕ → Making → Effect
lengthened c n d Nothing = begun c n d
lengthened c n d (Number x) = grown x d
lengthened c n d (Padded x) = Faulty Grouped (d + first_digit) 0

abbrev pub effect_of : ℕ → ℕ → Making → Kind → Effect
effect_of c n m Blank = parted m
effect_of c n m Separator = closed m
effect_of c n m Padding = padded m
effect_of c n m (Digit d) = lengthened c n d m
effect_of c n m (Other fault b) = Faulty fault b 0

-- what was parsed: how many numbers, or the first fault
abbrev pub Parsed : Type 0
Parsed = Result ℕ Flaw

abbrev pub flaw : Fault → ℕ → ℕ → ℕ → Flaw
flaw f i seen sought = record { fault = f; place = i; found = seen; wanted = sought }

-- what reading comes to: the answer, and the numbers that were read whole
pub record Found : Type 0 where
  pub answer : Parsed
  pub numbers : List ℕ

abbrev pub found : Parsed → List ℕ → Found
found a l = record { answer = a; numbers = l }

-- a number before those found
unfoldable pub before : ℕ → Found → Found
before x f = found f.answer (x ∷ f.numbers)

-- what follows the byte at place i by its effect: the text is read on with a number in the making, or after a whole one; or reading stops
unfoldable pub follow : ℕ → Effect → (Making → Found) → (ℕ → Found) → Found
follow i (Becomes m) on whole = on m
follow i (Ends x) on whole = whole x
follow i (Faulty fault seen wanted) on whole = found (Err (flaw fault i seen wanted)) []

-- what is read from place i on, where c numbers are read, there is room for n, and m is in the making
unfoldable pub read_from : ℕ → ℕ → ℕ → Making → List Kind → Found
read_from n c i m [] = found (Ok c) []
read_from n c i m (k ∷ r) =
    follow i (effect_of c n m k) (λ m'. read_from n c (suc i) m' r) (λ x. before x (read_from n (suc c) (suc i) Nothing r))

-- what a text comes to where there is room for n numbers; places are counted from 1
unfoldable pub read_text : Parting → List ℕ → ℕ → Found
read_text by text n = read_from n 0 1 Nothing (kinds_of by text)

-- what a text answers, and the numbers that are stored
pub record Outcome : Type 0 where
  pub answer : Read
  pub numbers : List ℕ

abbrev pub outcome : Read → List ℕ → Outcome
outcome a l = record { answer = a; numbers = l }

-- a text of numbers: how many there are, or the first fault
abbrev pub told_numbers : List ℕ → Parsed → Read
told_numbers text (Ok c) = values c 0
told_numbers text (Err e) = Err (refused_at e.fault (spot_of text e.place) e.found e.wanted)

abbrev pub numbers_found : List ℕ → Found → Outcome
numbers_found text f = outcome (told_numbers text f.answer) f.numbers

unfoldable pub numbers_in : List ℕ → ℕ → Outcome
numbers_in text n = cond (is_cut text) (outcome (Err (cut_text text)) []) (numbers_found text (read_text Free text n))

abbrev pub numbers_of : List ℕ → ℕ → Outcome
numbers_of text n = numbers_in (body_of text) n
