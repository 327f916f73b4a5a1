-- The numbers of a text's faults: those from 101 on are none of the specification's refusals (Spec 12.3).
use Rattle.std.specs.Prelude.{ℕ}
use Rattle.places.specs.declared.Fault.{Fault}
use Rattle.places.specs.declared.Fault.TheVariants.{OutOfRange, NoRoom, Unreadable, TooLarge, CutOff, OtherFields, Grouped, Signed, NoAmount}

-- a lent slice too short, and a number of columns or of payslips out of range, are refusals of the specification
abbrev pub out_of_range : ℕ
out_of_range = 1

abbrev pub no_room : ℕ
no_room = 5

abbrev pub unreadable : ℕ
unreadable = 101

abbrev pub too_large : ℕ
too_large = 102

abbrev pub cut_off : ℕ
cut_off = 103

abbrev pub other_fields : ℕ
other_fields = 104

abbrev pub grouped : ℕ
grouped = 105

abbrev pub signed : ℕ
signed = 106

abbrev pub no_amount : ℕ
no_amount = 107

-- the number of a fault
abbrev pub number_of : Fault → ℕ
number_of OutOfRange = out_of_range
number_of NoRoom = no_room
number_of Unreadable = unreadable
number_of TooLarge = too_large
number_of CutOff = cut_off
number_of OtherFields = other_fields
number_of Grouped = grouped
number_of Signed = signed
number_of NoAmount = no_amount
