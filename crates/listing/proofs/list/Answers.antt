-- The verdict on the file decides which text is written over the front.
use Rattle.std.proofs.Common.{rules}
use Rattle.listing.proofs.Listed.{columns_few, payslips_few, steps_few, listed_refused, listed_chain}
use Rattle.listing.proofs.list.Goals as goal

pub put_chain-requires : goal.put_chain-requires
put_chain-requires c =
    let answered = c.in-Ok.ensures.told_is in
    let columns = columns_few _ _ _ _ answered in
    let payslips = payslips_few _ _ _ _ answered in
    let steps = steps_few _ _ _ _ answered in
    search rules

pub returns-in-Ok : goal.returns-in-Ok
returns-in-Ok c =
    let told = c.in-Ok.ensures in
    let leaves = listed_chain _ _ _ _ told.told_is c.measure_file.new.table _ _ _ told.holds c.put_chain.ensures in
    record { value = leaves.0; text_after = leaves.1 }

pub returns-in-Err : goal.returns-in-Err
returns-in-Err c =
    let leaves = listed_refused _ _ _ _ _ _ c.in-Err.ensures.told_is (rw c.number.ensures at c.put_refused.ensures) in
    record { value = leaves.0; text_after = leaves.1 }
