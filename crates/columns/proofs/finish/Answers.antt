-- Each return answers what was found, 13 before 14.
use Rattle.std.proofs.Common.{rules}
use Rattle.verify.proofs.Answers.{finishing}
use Rattle.columns.proofs.finish.Goals as goal

pub returns-then-found-ne0 : goal.returns-then-found-ne0
returns-then-found-ne0 c = search (rules, finishing)

pub returns-then-found-ne0-2 : goal.returns-then-found-ne0-2
returns-then-found-ne0-2 c = search (rules, finishing)

pub returns : goal.returns
returns c = search (rules, finishing)
