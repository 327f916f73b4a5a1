-- What each case of a judged file says (Spec 8): its number of steps where it reads and passes, or a refusal.
use Rattle.std.specs.Prelude.{Result, Ok, Err, ℕ}
use Rattle.chain.specs.Verdict.{Verdict, fine, refused}
use Rattle.refusal.specs.declared.Refusal.{Refusal}
use Rattle.refusal.specs.Reasons.{number_of}

-- the verdict on a file
abbrev pub verdict_of : Result ℕ Refusal → Verdict
verdict_of (Ok n) = fine
verdict_of (Err r) = refused (number_of r.reason) r.place

-- the number of steps of a file that passed
abbrev pub count_of : Result ℕ Refusal → ℕ
count_of (Ok n) = n
count_of (Err r) = 0
