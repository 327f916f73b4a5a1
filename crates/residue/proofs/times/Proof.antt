-- The quotient taken leaves less than m twice (`Quotient`), and what is left is corrected by its top bit (`Correction`).
use Rattle.std.proofs.Common.{rules}
use Rattle.residue.proofs.Width.{product_fits}
use Rattle.residue.proofs.Quotient.{Taken, taken_under, taken_fits, what_is_left}
use Rattle.residue.proofs.Correction.{one_more, as_it_is}
use Rattle.residue.proofs.times.Statement.{statement}
use Rattle.residue.proofs.times.Tie as tie

mul-product : tie.Need-overflow_mul-product
mul-product c = record { fits = product_fits 32 (search rules) (search rules) }

high-requires : tie.Need-high-requires
high-requires c κs = search rules

mul_left : tie.Need-overflow_mul-left
mul_left c =
    let s = c.before in
    record { fits = taken_fits (record { x_low = s.ranges.x.fits; y_low = s.ranges.y.fits; asked = s.requires; taken = c.high.ensures }) }

sub-left : tie.Need-overflow_sub-left
sub-left c =
    let s = c.before in
    taken_under (record { x_low = s.ranges.x.fits; y_low = s.ranges.y.fits; asked = s.requires; taken = c.high.ensures })

wrapping-sub-u64-requires : tie.Need-wrapping_sub_u64-less-requires
wrapping-sub-u64-requires c κs = search rules

cast-result : tie.Need-overflow_cast-result
cast-result c =
    let told = c.wrapping_sub_u64-less in
    let call = c.before.before in
    let s = call.before in
    let t : Taken _ _ _ _ _ = record { x_low = s.ranges.x.fits; y_low = s.ranges.y.fits; asked = s.requires; taken = call.high.ensures } in
    record { fits = (one_more (what_is_left t) s.ranges.m.fits told.type_inv told.ensures c.if-less-lt9223372036854775808.true).low }

cast-result-2 : tie.Need-overflow_cast-result-else-less-lt9223372036854775808
cast-result-2 c =
    let told = c.wrapping_sub_u64-less in
    let call = c.before.before in
    let s = call.before in
    let t : Taken _ _ _ _ _ = record { x_low = s.ranges.x.fits; y_low = s.ranges.y.fits; asked = s.requires; taken = call.high.ensures } in
    record { fits = (as_it_is (what_is_left t) s.ranges.m.fits told.type_inv told.ensures c.if-less-lt9223372036854775808.false).low }

returns : tie.Need-returns-then-less-lt9223372036854775808
returns c =
    let told = c.wrapping_sub_u64-less in
    let call = c.before.before in
    let s = call.before in
    let t : Taken _ _ _ _ _ = record { x_low = s.ranges.x.fits; y_low = s.ranges.y.fits; asked = s.requires; taken = call.high.ensures } in
    (one_more (what_is_left t) s.ranges.m.fits told.type_inv told.ensures c.if-less-lt9223372036854775808.true).is

returns-2 : tie.Need-returns-else-less-lt9223372036854775808
returns-2 c =
    let told = c.wrapping_sub_u64-less in
    let call = c.before.before in
    let s = call.before in
    let t : Taken _ _ _ _ _ = record { x_low = s.ranges.x.fits; y_low = s.ranges.y.fits; asked = s.requires; taken = call.high.ensures } in
    (as_it_is (what_is_left t) s.ranges.m.fits told.type_inv told.ensures c.if-less-lt9223372036854775808.false).is

pub times_spec : {M : Type 1} → statement M
times_spec =
    tie.close
    (tie.spec
    mul-product
    high-requires
    mul_left
    sub-left
    wrapping-sub-u64-requires
    cast-result
    cast-result-2
    returns
    returns-2)
