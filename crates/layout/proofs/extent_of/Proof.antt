-- The width that the cases give for p + n is W, and `count_fits` keeps the product of counts and width far below a usize's end.
use mathlib.Core.Path.{◌≡◌, ◌∙◌}
use Prim.Native.Nat.{◌+◌, ◌*◌, ◌^◌, ◌<◌}
use native.Mathlib.Omega.{arith}
use Rattle.layout.specs.File.{width}
use Rattle.layout.proofs.Lengths.{count_fits}
use Rattle.layout.proofs.Widths.{width_by_cases_lem}
use borrow.Author.Rules.{rules}
use Rattle.layout.proofs.extent_of.Statement.{statement}
use Rattle.layout.proofs.extent_of.Tie as tie

is_width : (c : tie.After-by_cases-width) → c.by_cases-width.result ≡ width c.args.p c.args.n
is_width c =
    let s = c.before in
    c.by_cases-width.ensures ∙ width_by_cases_lem s.args.layout s.requires.sound s.args.p s.args.q s.args.n s.requires.sized

-- all bits of the fields together
low : (c : tie.After-by_cases-width) → let a = c.args in 14 + a.layout.bits + (2 * a.n + a.q) * c.by_cases-width.result < 2 ^ 32
low c =
    let s = c.before in
    rw (is_width c) (count_fits s.args.layout s.requires.sound s.args.p s.args.q s.args.n s.requires.sized)

mul-total-2 : tie.Need-overflow_mul-total-2
mul-total-2 c = record { fits = omega (arith, low c.before) }

add-total-2 : tie.Need-overflow_add-total-2
add-total-2 c = record { fits = omega (arith, low c.before) }

add-t8 : tie.Need-overflow_add-result
add-t8 c = record { fits = omega (arith, low c.before) }

returns : tie.Need-returns
returns c = rw (is_width c.before)

pub extent_of_spec : {M : Type 1} → statement M
extent_of_spec =
    tie.close
    (tie.spec (λ c. search rules) (λ c κs. search rules) (λ c. search rules) (λ c. search rules) (λ c. search rules) mul-total-2 add-total-2 add-t8
    returns)
