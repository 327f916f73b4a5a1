-- Inner vocabulary: what the functions of this crate ask. Nobody has to believe it to believe an entry point's promise.
use Rattle.std.specs.Prelude.{ℕ, ◌≤◌}
use Rattle.chain.specs.Verdict.{Verdict, fine, refused}
use Rattle.chain.specs.Chain.{most_columns, most_payslips, most_steps}

-- the place that a verdict tells, 0 for none
abbrev pub place_in : Verdict → ℕ
place_in fine = 0
place_in (refused n s) = s

-- what counting a place on asks: neither part is longer than a chain may be
pub record CountAsked (before : ℕ) (found : Verdict) : Type 0 where
  pub before_low : before ≤ most_steps
  pub place_low : place_in found ≤ most_steps

-- what judging the steps of both parts asks
pub record StepsAsked (p n p' n' : ℕ) : Type 0 where
  pub p_low : p ≤ most_columns
  pub p'_low : p' ≤ most_columns
  pub n_low : n ≤ most_steps
  pub n'_low : n' ≤ most_steps

-- and their outputs
pub record OutputsAsked (q q' : ℕ) : Type 0 where
  pub q_low : q ≤ most_payslips
  pub q'_low : q' ≤ most_payslips
