-- What was found of the bytes answers, then what is lent; where nothing is found, the amounts stored are the fields'.
use Rattle.std.proofs.Common.{◌≡◌, sym, arith, rules, Err}
use Rattle.chain.proofs.OneSlice.{given_refused, too_short, long_enough, refused_leaves, done_leaves}
use Rattle.packed.specs.Packed.{unpack_rule, unpack_answer, unpack_amounts}
use Rattle.packed.proofs.Given.{readable}
use Rattle.unpacking.proofs.unpack.Goals as goal

pub overflow_mul-m : goal.overflow_mul-m
overflow_mul-m c = omega (arith, (readable _ _ _ (sym c.in_ok-judge_readable.ensures)).few)

pub store-requires : goal.store-requires
store-requires c =
    record { there = omega (arith, (readable _ _ _ (sym c.in_ok-judge_readable.ensures)).long); room = c.if-amounts-m.false }

pub returns-in_err-judge_readable : goal.returns-in_err-judge_readable
unfolding unpack_rule unpack_answer unpack_amounts
returns-in_err-judge_readable c =
    let told : c.from_residual.result ≡ Err c.in_err-judge_readable.field-0.0 = search rules in
    let leaves = refused_leaves _ _ _ _ _ _ (given_refused _ _ _ _ _ c.in_err-judge_readable.ensures) in
    record { result_value = rw told leaves.0; amounts_after = leaves.1 }

pub returns-then-amounts-m : goal.returns-then-amounts-m
unfolding unpack_rule unpack_answer unpack_amounts
returns-then-amounts-m c =
    let leaves = refused_leaves _ _ _ _ 5 0 (too_short _ _ _ c.in_ok-judge_readable.ensures c.if-amounts-m.true) in
    record { result_value = rw c.into.ensures leaves.0; amounts_after = leaves.1 }

pub returns : goal.returns
unfolding unpack_rule unpack_answer unpack_amounts
returns c =
    let leaves = done_leaves _ _ _ _ _ (long_enough _ _ _ c.in_ok-judge_readable.ensures c.if-amounts-m.false) c.store.ensures in
    record { result_value = leaves.0; amounts_after = leaves.1 }
