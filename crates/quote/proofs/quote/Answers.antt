-- Each arm counts by the method that the number names.
use Rattle.std.proofs.Common.{arith}
use Rattle.quote.proofs.Fits.{in_range, first_asks, other_asks}
use Rattle.quote.proofs.ByMethod.{is_straus, is_yao, is_partition, quoted}
use Rattle.quote.proofs.quote.Goals as goal

pub quote-requires : goal.quote-requires
quote-requires c = first_asks (in_range _ _ _ _ _ c.requires.passed) (omega arith)

pub quote-requires-in-2 : goal.quote-requires-in-2
quote-requires-in-2 c = other_asks (in_range _ _ _ _ _ c.requires.passed) c.requires.measured (λ e. omega arith)

pub quote-requires-in_default : goal.quote-requires-in_default
quote-requires-in_default c = other_asks (in_range _ _ _ _ _ c.requires.passed) c.requires.measured (λ e. omega arith)

pub returns-in-1 : goal.returns-in-1
returns-in-1 c = quoted (is_straus _ _ _ _ _ (omega arith)) c.quote.ensures

pub returns-in-2 : goal.returns-in-2
returns-in-2 c = quoted (is_yao _ _ _ _ _ (omega arith)) c.quote-in-2.ensures

pub returns-in_default : goal.returns-in_default
returns-in_default c = quoted (is_partition _ _ _ _ _ (λ e. omega arith) (λ e. omega arith)) c.quote-in_default.ensures
