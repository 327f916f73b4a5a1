-- The code's digits are those of `Upper` in base 2 ^ 32; each of its sums is a product of two digits and one digit more.
use Rattle.std.proofs.Common.{◌≡◌, ℕ, ◌+◌, ◌*◌, ◌/◌, ◌%◌, ◌^◌, ◌<◌, sym, ◌∙◌, subst, le-add_right, lt_of_le_of_lt, mod-lt, add_comm, div-add-mod', pow_pos, pow-add, shr_lt}
use Rattle.residue.proofs.Width.{product_fits, sum_fits}
use Rattle.residue.proofs.Upper.{middle, next, upper}
use Rattle.residue.proofs.high.Statement.{statement}
use Rattle.residue.proofs.high.Tie as tie

low : (u : ℕ) → u % 2 ^ 32 < 2 ^ 32
low u = mod-lt u (pow_pos 32)

-- what the code computes of u and v
abbrev columns : ℕ → ℕ → ℕ
columns u v =
    let m = middle (2 ^ 32) (pow_pos 32) (u / 2 ^ 32) (u % 2 ^ 32) (v / 2 ^ 32) (v % 2 ^ 32) in
    let n = next (2 ^ 32) (pow_pos 32) (u / 2 ^ 32) (u % 2 ^ 32) (v / 2 ^ 32) (v % 2 ^ 32) in
    u / 2 ^ 32 * (v / 2 ^ 32) + m / 2 ^ 32 + n / 2 ^ 32

high_law : (u v : ℕ) → columns u v ≡ u * v / 2 ^ 64
high_law u v =
    sym (upper (2 ^ 32) (pow_pos 32) (u / 2 ^ 32) (u % 2 ^ 32) (v / 2 ^ 32) (v % 2 ^ 32))
    ∙ (λ i. div-add-mod' u (2 ^ 32) i * div-add-mod' v (2 ^ 32) i / sym (pow-add 2 32 32) i)

high_fits : (u v : ℕ) → u < 2 ^ 64 → v < 2 ^ 64 → columns u v < 2 ^ 64
high_fits u v hu hv = subst (λ (n : ℕ). n < 2 ^ 64) (sym (high_law u v)) (shr_lt 64 64 (product_fits 64 hu hv))

mul-middle : tie.Need-overflow_mul-middle
mul-middle c = record { fits = product_fits 32 (shr_lt 32 32 c.ranges.u.fits) (low _) }

mul-middle-2 : tie.Need-overflow_mul-middle-2
mul-middle-2 c = record { fits = product_fits 32 (low _) (low _) }

add-middle : tie.Need-overflow_add-middle
add-middle c = record { fits = sum_fits 32 (shr_lt 32 32 c.ranges.u.fits) (low _) (shr_lt 32 32 (product_fits 32 (low _) (low _))) }

mul_next : tie.Need-overflow_mul-next
mul_next c = record { fits = product_fits 32 (low _) (shr_lt 32 32 c.ranges.v.fits) }

add-next : tie.Need-overflow_add-next
add-next c =
    record { fits = subst (λ (n : ℕ). n < 2 ^ 64) (add_comm _ _) (sum_fits 32 (low _) (shr_lt 32 32 c.ranges.v.fits) (low _)) }

mul-result : tie.Need-overflow_mul-result
mul-result c = record { fits = product_fits 32 (shr_lt 32 32 c.ranges.u.fits) (shr_lt 32 32 c.ranges.v.fits) }

add-result : tie.Need-overflow_add-result
add-result c = record { fits = lt_of_le_of_lt (le-add_right _ _) (high_fits c.args.u c.args.v c.ranges.u.fits c.ranges.v.fits) }

add-result-2 : tie.Need-overflow_add-result-2
add-result-2 c = record { fits = high_fits c.args.u c.args.v c.ranges.u.fits c.ranges.v.fits }

returns : tie.Need-returns
returns c = high_law c.args.u c.args.v

pub high_spec : {M : Type 1} → statement M
high_spec =
    tie.close
    (tie.spec
    mul-middle
    mul-middle-2
    add-middle
    mul_next
    add-next
    mul-result
    add-result
    add-result-2
    returns)
