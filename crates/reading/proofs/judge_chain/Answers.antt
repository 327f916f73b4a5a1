-- A short file's chain is that of the copy that begins with it (`long_judged`).
use Rattle.std.proofs.Common.{rules, arith}
use Rattle.reading.proofs.Judging.{long_contained, long_judged}
use Rattle.reading.proofs.judge_chain.Goals as goal

pub judge_lists-requires : goal.judge_lists-requires
judge_lists-requires c = long_contained _ _ _ c.lengthen.ensures _ c.requires (search rules) (omega arith)

pub returns-then-bytes-lt8 : goal.returns-then-bytes-lt8
returns-then-bytes-lt8 c = long_judged _ _ _ c.lengthen.ensures _ c.requires _ c.judge_lists.ensures
