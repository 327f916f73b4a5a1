-- Groups and tables counted: division rounds up to no more groups than inputs, each begins inside the inputs, and a full group's table is the longest.
use mathlib.Core.Path.{◌≡◌}
use mathlib.Core.Logic.{◌↔◌}
use mathlib.Core.List.{List}
use Prim.Native.Nat.{ℕ, zero, suc, ◌+◌, ◌-◌, ◌*◌, ◌^◌, ◌≤◌, ◌<◌}
use native.Mathlib.Decide.{dec_le}
use native.Mathlib.Nat.{mul_comm, mul-le-mul_right, mul-le-mul_left, div-add-mod', div-lt_iff_lt-mul, suc-mul, le_refl, pow-suc}
use native.Mathlib.Omega.{arith}
use Rattle.digits.specs.Range.{sum_to}
use Rattle.digits.proofs.Range.{sum_low}
use Rattle.groups.specs.Groups.{group_count, group_size, most_inputs, table_steps, tables_count}
use Rattle.groups.specs.Inner.{bits_less}
use Rattle.groups.proofs.Groups.{inputs_below}

-- the bits of the first n columns of a slice, less some each
abbrev pub less_to : List ℕ → ℕ → ℕ → ℕ
less_to bits less n = sum_to n (bits_less bits less)

-- w/c rounded up: the least number of groups of c that hold w inputs
pub rounded_up : (c w g : ℕ) → 1 ≤ c → group_count c w ≤ g ↔ w ≤ g * c
rounded_up c w g some = (
  λ few. let low = (div-lt_iff_lt-mul {x = w + c - 1} {y = suc g} some).0 (omega arith) in omega (arith, suc-mul g c),
  λ room. let few : group_count c w < suc g = (div-lt_iff_lt-mul some).1 (omega (arith, suc-mul g c)) in omega arith,
)

-- there are no more groups than inputs
pub groups_low : (c w : ℕ) → 1 ≤ c → group_count c w ≤ w
groups_low c w some = (rounded_up c w w some).1 (omega (arith, mul-le-mul_left w some))

pub groups_few : (c w : ℕ) → 1 ≤ c → w ≤ most_inputs → group_count c w ≤ most_inputs
groups_few c w some few = omega (arith, groups_low c w some)

-- each one's first input is one
pub group_inside : (c w g G : ℕ) → 1 ≤ c → G ≡ group_count c w → g < G → g * c ≤ w
group_inside c w g G some e h =
    let d = div-add-mod' (w + c - 1) c in
    let le : suc g ≤ group_count c w = omega arith in
    let wide : suc g * c ≤ group_count c w * c = mul-le-mul_right c le in
    omega (arith, suc-mul g c, mul_comm c (group_count c w))

-- the steps of a table, x being 2^n
module _ (n x : ℕ) (e : x ≡ 2 ^ n) where
  pub table_some : n + 1 ≤ x
  table_some = omega (arith, inputs_below n)

-- a table of more inputs has no fewer steps
table_more : (g c : ℕ) → g ≤ c → table_steps g ≤ table_steps c
table_more g zero h = let e : g ≡ 0 = omega arith in rw e (le_refl _)
table_more g (suc c) h = by_size (table_more g c) (dec_le g c)
  where
    by_size : (g ≤ c → table_steps g ≤ table_steps c) → Dec (g ≤ c) → table_steps g ≤ table_steps (suc c)
    by_size ih (yes le) = rw (pow-suc 2 c) (omega (arith, ih le, inputs_below c))
    by_size ih (no gt) = let e : g ≡ suc c = omega arith in rw e (le_refl _)

-- no group has a longer table than a full one
pub tables_full : (c w n : ℕ) → tables_count c w n ≤ n * table_steps c
tables_full c w n = sum_low n (λ g. table_steps (group_size c w g)) (table_steps c) (λ g h. table_more (group_size c w g) c (omega arith))
