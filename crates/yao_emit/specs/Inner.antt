-- Inner vocabulary: what the functions of this crate ask and leave; nobody has to believe it to believe an entry point's promise.
use Rattle.std.specs.Prelude.{◌≡◌, List, ℕ, ◌+◌, ◌-◌, ◌*◌, ◌^◌, ◌≤◌, ◌<◌}
use Rattle.chain.specs.declared.Step.{Step}
use Rattle.products.specs.Product.{Made, made, times}
use Rattle.products.specs.Inner.{StepsStored}
use Rattle.products.specs.declared.Progress.{Progress}
use Rattle.digits.specs.Range.{list_to}
use Rattle.methods.specs.Powers.{power_at}
use Rattle.yao.specs.Yao.{gather, Sweep, sweep, yao_payslip}
use Rattle.yao.specs.Inner.{YaoAsked, squarings_in}
use Rattle.yao_emit.specs.declared.Column.{Column}

-- the value number of power 2^(ki) in a column
abbrev pub power_in : Column → ℕ → ℕ
power_in col i = power_at col.c col.first (col.k * i)

-- its powers have numbers of 32 bits, and so has a number of its digits but for the top digit
pub record Reach (col : Column) : Type 0 where
  pub some : 0 < col.k
  pub narrow : col.k < 32
  pub few : col.k * col.digits ≤ 31 + col.k
  pub base : col.c + 1 < 2 ^ 32
  pub numbers : col.first + col.k * col.digits < 2 ^ 32

-- what is done for its amount: b takes up the first n powers, the first n values of d, and the whole joined to a product
abbrev pub gather_in : Column → ℕ → ℕ → Made → Made
gather_in col d n b = gather col.p col.k (power_in col) col.x d n b

abbrev pub sweep_in : Column → List Step → ℕ → Sweep
sweep_in col before n = sweep col.p col.k (power_in col) col.digits col.x before n

abbrev pub joined : Column → Made → Made
joined col m =
    let r = sweep_in col m.steps (2 ^ col.k - 1) in
    times col.p (made r.steps m.value) r.a

-- a slice holds the steps of a sweep over what it held before
pub record SweepEmitted (before cells : List ℕ) (n : Progress) (a b : ℕ) (r : Sweep) : Type 0 where
  pub stored : StepsStored before cells n r.steps
  pub a_is : a ≡ r.a
  pub b_is : b ≡ r.b

-- a chain that is asked for, with the columns' squarings counted
pub record SquaringsCounted (p q : ℕ) (amounts : List ℕ) (k : ℕ) (columns counts : List ℕ) : Type 0 where
  pub chain : YaoAsked p q amounts k columns
  pub counts_are : counts ≡ list_to p (squarings_in k columns)

-- the whole of payslip i
abbrev pub yao_slip : ℕ → ℕ → List ℕ → ℕ → ℕ → List Step → Made
yao_slip p q amounts k i before = yao_payslip p q amounts k i before p
