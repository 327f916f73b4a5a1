-- The sizes and lengths that were found fit are what the later calls ask.
use Rattle.std.proofs.Common.{sym, arith}
use Rattle.pool.proofs.Parts.{both_sizes_fit, both_lengths_fit}
use Rattle.pool.proofs.judge_parts.Goals as goal

pub judge_steps-requires : goal.judge_steps-requires
judge_steps-requires c =
    let sizes = both_sizes_fit _ _ _ _ (sym c.in_ok-judge_sizes.ensures) in
    let lengths = both_lengths_fit _ _ (sym c.in_ok-judge_lengths.ensures) in
    record { p_low = sizes.first.p_low; p'_low = sizes.second.p_low; n_low = lengths.first; n'_low = lengths.second }

pub overflow_add-p1 : goal.overflow_add-p1
overflow_add-p1 c =
    omega
    (arith, both_sizes_fit _ _ _ _ (sym c.in_ok-judge_sizes.ensures), both_lengths_fit _ _ (sym c.in_ok-judge_lengths.ensures))

pub overflow_add-p2 : goal.overflow_add-p2
overflow_add-p2 c =
    omega
    (arith, both_sizes_fit _ _ _ _ (sym c.in_ok-judge_sizes.ensures), both_lengths_fit _ _ (sym c.in_ok-judge_lengths.ensures))

pub judge_outputs-requires : goal.judge_outputs-requires
judge_outputs-requires c =
    let sizes = both_sizes_fit _ _ _ _ (sym c.in_ok-judge_sizes.ensures) in
    record { q_low = sizes.first.q_low; q'_low = sizes.second.q_low }
