-- The numbers of the refusals (Spec 10, Spec 1.4).
use Rattle.std.specs.Prelude.{ℕ}
use Rattle.refusal.specs.declared.Reason.{Reason}
use Rattle.refusal.specs.declared.Reason.TheVariants.{Sizes, Amounts, Method, TooManySteps, Room, Length, Edition, Filling, EmptyOperand, LateOperand, OperandOrder, Output, Exponent, Payslip, Modulus, Bases, Columns, Field, Minus, Unpackable}

-- Spec 10: the number of each refusal
abbrev pub number_of : Reason → ℕ
number_of Sizes = 1
number_of Amounts = 2
number_of Method = 3
number_of TooManySteps = 4
number_of Room = 5
number_of Length = 6
number_of Edition = 7
number_of Filling = 8
number_of EmptyOperand = 9
number_of LateOperand = 10
number_of OperandOrder = 11
number_of Output = 12
number_of Exponent = 13
number_of Payslip = 14
number_of Modulus = 15
number_of Bases = 16
number_of Columns = 17
number_of Field = 18
number_of Minus = 19
number_of Unpackable = 20
