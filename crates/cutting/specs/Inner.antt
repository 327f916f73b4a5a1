-- Inner vocabulary: what the functions of this crate ask and leave; nobody has to believe it to believe an entry point's promise.
use Rattle.std.specs.Prelude.{◌≡◌, List, ℕ, ◌+◌, ◌-◌, ◌*◌, ◌/◌, ◌^◌, ◌≤◌, ◌<◌, get_or}
use Rattle.chain.specs.Written.{over, laid}
use Rattle.digits.specs.Digits.{digit}
use Rattle.digits.specs.Range.{sum_to, list_to}
use Rattle.groups.specs.declared.Grouping.{Grouping}
use Rattle.cutting.specs.declared.Row.{Row}
use Rattle.groups.specs.Groups.{column_bits, selection}
use Rattle.groups.specs.Inner.{numbers_of}

-- the number of n bits of a list from place s on, the first with weight 1
abbrev pub number_at : List ℕ → ℕ → ℕ → ℕ
number_at l s n = sum_to n (λ j. get_or l (s + j) 0 * 2 ^ (1 * j))

-- parts of c bits are cut off the front of a row, which is left shorter, and laid from its next part's cell on
pub record Cut (c : ℕ) (row left : Row) (old cells : List ℕ) : Type 0 where
  pub onward : row.g ≤ left.g
  pub held_less : left.held + (left.g - row.g) * c ≡ row.held
  pub rest : left.bits ≡ row.bits / 2 ^ (c * (left.g - row.g))
  pub parts_are : cells ≡ laid row.g (list_to (left.g - row.g) (digit c row.bits)) old

-- as many parts as there are
pub record CutUp (c : ℕ) (row left : Row) (old cells : List ℕ) : Type 0 where
  pub short : left.held < c
  pub cut : Cut c row left old cells

-- the bits of the first n columns of payslip i are entered: the whole parts are laid, and the others are left in the row
pub record Entered (s : Grouping) (amounts : List ℕ) (i n : ℕ) (row : Row) (old cells : List ℕ) : Type 0 where
  pub place : row.held + row.g * s.c ≡ sum_to n (column_bits s.p s.q amounts)
  pub short : row.held < s.c
  pub waiting : row.bits ≡ number_at (selection s.p s.q amounts i) (row.g * s.c) row.held
  pub parts_are : cells ≡ over (numbers_of s.c row.g (selection s.p s.q amounts i)) old
