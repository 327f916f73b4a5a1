-- What is found by a rule that refuses under a bare number.
use Rattle.std.specs.Prelude.{Result, Ok, Err}
use Rattle.chain.specs.Verdict.{Verdict, fine, refused}
use Rattle.limit.specs.declared.Numbered.{Numbered}

abbrev pub numbered_verdict : Result (Unit {0}) Numbered → Verdict
numbered_verdict (Ok _) = fine
numbered_verdict (Err r) = refused r.number r.place
