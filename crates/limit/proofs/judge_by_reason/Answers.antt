-- What was refused under the reason's number is refused for the reason.
use Rattle.limit.proofs.Named.{named}
use Rattle.limit.proofs.judge_by_reason.Goals as goal

pub returns-in-Err : goal.returns-in-Err
returns-in-Err c = rw c.number.ensures at (rw (named _ _ 1 _ _ _ c.in-Err.ensures) at c.in-Err.ensures)
