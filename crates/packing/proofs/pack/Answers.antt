-- What was found of the amounts answers, then what is lent; where nothing is found, the bytes stored are the amounts' fields.
use Rattle.std.proofs.Common.{◌≡◌, sym, arith, rules, Err}
use Rattle.chain.proofs.Rules.{answer_done, renewed}
use Rattle.chain.proofs.OneSlice.{given_refused, too_short, long_enough, refused_leaves}
use Rattle.packed.specs.Packed.{pack_rule, pack_answer, pack_bytes}
use Rattle.packed.proofs.Given.{writable}
use Rattle.packing.proofs.pack.Goals as goal

pub store-requires : goal.store-requires
store-requires c =
    record { amounts_low = (writable _ _ _ (sym c.in_ok-judge_writable.ensures)).low; room = c.if-bytes-amounts.false }

pub returns-in_err-judge_writable : goal.returns-in_err-judge_writable
unfolding pack_rule pack_answer pack_bytes
returns-in_err-judge_writable c =
    let told : c.from_residual.result ≡ Err c.in_err-judge_writable.field-0.0 = search rules in
    let leaves = refused_leaves _ _ _ _ _ _ (given_refused _ _ _ _ _ c.in_err-judge_writable.ensures) in
    record { result_value = rw told leaves.0; bytes_after = leaves.1 }

pub returns-then-bytes-amounts : goal.returns-then-bytes-amounts
unfolding pack_rule pack_answer pack_bytes
returns-then-bytes-amounts c =
    let many = (writable _ _ _ (sym c.in_ok-judge_writable.ensures)).many in
    let leaves = refused_leaves _ _ _ _ 5 0 (too_short _ _ _ c.in_ok-judge_writable.ensures (omega (arith, many, c.if-bytes-amounts.true))) in
    record { result_value = rw c.into.ensures leaves.0; bytes_after = leaves.1 }

pub returns-clause-result_value : goal.returns-clause-result_value
unfolding pack_rule pack_answer
returns-clause-result_value c =
    let many = (writable _ _ _ (sym c.in_ok-judge_writable.ensures)).many in
    rw many (answer_done _ _ (long_enough _ _ _ c.in_ok-judge_writable.ensures (omega (arith, many, c.if-bytes-amounts.false))))

pub returns-clause-bytes_after : goal.returns-clause-bytes_after
unfolding pack_rule pack_bytes
returns-clause-bytes_after c =
    let many = (writable _ _ _ (sym c.in_ok-judge_writable.ensures)).many in
    renewed _ _ _ _ (long_enough _ _ _ c.in_ok-judge_writable.ensures (omega (arith, many, c.if-bytes-amounts.false))) c.store.ensures
