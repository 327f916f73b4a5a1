-- Four fields are put one after the other, each where the one before ended; `header_stored` joins them.
use Rattle.writing.proofs.Writing.{header_stored}
use borrow.Author.Rules.{rules}
use Rattle.writing.proofs.put_header.Statement.{statement}
use Rattle.writing.proofs.put_header.Tie as tie

put-requires : tie.Need-put-c-requires
put-requires c κs = search rules

sub-put : tie.Need-overflow_sub-s
sub-put c = search rules

put-requires-2 : tie.Need-put-d-requires
put-requires-2 c κs = search rules

sub-put-2 : tie.Need-overflow_sub-s-2
sub-put-2 c = search rules

put-requires-3 : tie.Need-put-e-requires
put-requires-3 c κs = search rules

put-requires-4 : tie.Need-put-requires
put-requires-4 c κs = search rules

same_length : tie.Need-shape_of-bytes
same_length c = search rules

returns : tie.Need-returns
returns c =
    let u₄ = c.before.before in
    let u₃ = u₄.before.before.before.before in
    let u₂ = u₃.before.before.before.before.before in
    let u₁ = u₂.before.before.before.before.before in
    let a = u₁.args in
    header_stored a.layout _ _ _ _ _ _ _ _ _ _ _ _ u₁.put-c.ensures u₂.put-d.ensures u₃.put-e.ensures u₄.put.ensures

pub put_header_spec : {M : Type 1} → statement M
put_header_spec =
    tie.close
    (tie.spec
    put-requires
    sub-put
    put-requires-2
    sub-put-2
    put-requires-3
    put-requires-4
    same_length
    returns)
