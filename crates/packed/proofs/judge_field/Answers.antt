-- The count of digits and the last byte say what is found (`Judged`).
use Rattle.std.proofs.Common.{arith}
use Rattle.packed.proofs.Judged.{pairs_refused, last_refused, sign_judged}
use Rattle.packed.proofs.judge_field.Goals as goal
use Rattle.packed.proofs.judge_field.Goals.{then-count_pairs-lt4-via-then-count_pairs-lt4, then-count_pairs-lt4-via-else-count_pairs-lt4+then-last-ge160}

pub returns-then-count_pairs-lt4 : goal.returns-then-count_pairs-lt4
returns-then-count_pairs-lt4 c =
    elim c.then-count_pairs-lt4.branch [
      | then-count_pairs-lt4-via-then-count_pairs-lt4 w ↦ pairs_refused _ _ _ c.requires (omega (arith, c.count_pairs.ensures, w.if-count_pairs-lt4.true))
      | then-count_pairs-lt4-via-else-count_pairs-lt4+then-last-ge160 w ↦ last_refused _ _ _ c.requires
          (omega (arith, c.count_pairs.ensures, w.if-count_pairs-lt4.false)) w.if-last-ge160.true
    ]

pub returns : goal.returns
returns c =
    sign_judged _ _ _ c.requires (omega (arith, c.count_pairs.ensures, c.if-count_pairs-lt4.false)) _ c.judge_sign.ensures
    c.if-last-ge160.false
