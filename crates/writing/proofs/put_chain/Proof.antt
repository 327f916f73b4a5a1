-- The header, the steps and the outputs are put one after the other; each finds room because the whole file has it, and together they are the file (`file_stored`).
use lib.ListN.{length}
use Rattle.writing.specs.Inner.{ToWrite}
use Rattle.writing.proofs.Writing.{header_fill, twice_fits, steps_room, outputs_room, file_stored}
use borrow.Author.Rules.{rules}
use Rattle.writing.proofs.put_chain.Statement.{statement}
use Rattle.writing.proofs.put_chain.Tie as tie

-- the chain is one that may be written
chain : (c : tie.Start) → let a = c.args in ToWrite a.layout a.s a.steps.now a.outputs.now (length a.bytes.now)
chain c = c.requires

put-header-requires : tie.Need-put_header-c-requires
put-header-requires c κs = header_fill _ _ _ _ _ (chain c.before.before.before.before)

mul-put-fields : tie.Need-overflow_mul-s
mul-put-fields c =
    let h = c.before.before.before.before in
    let s = h.before.before.before.before.before in
    let a = s.args in
    record { fits = twice_fits _ _ a.steps.now a.outputs.now a.bytes.now (chain s) }

put-fields-requires : tie.Need-put_fields-d-requires
put-fields-requires c κs =
    let h = c.before.before.before.before in
    steps_room _ _ _ _ _ (chain h.before.before.before.before.before) _ _ h.put_header-c.ensures h.put_header-c.auto.bytes

put-fields-requires-2 : tie.Need-put_fields-requires
put-fields-requires-2 c κs =
    let t = c.before.before.before in
    let h = t.before.before.before.before.before in
    outputs_room _ _ _ _ _ (chain h.before.before.before.before.before) _ _ h.put_header-c.ensures h.put_header-c.auto.bytes _ _
    t.put_fields-d.ensures t.put_fields-d.auto.buf

same_length : tie.Need-shape_of-bytes
same_length c = search rules

returns : tie.Need-returns
returns c =
    let u = c.before.before in
    let t = u.before.before.before.before in
    let h = t.before.before.before.before.before in
    file_stored _ _ _ _ _ (chain h.before.before.before.before.before) _ _ h.put_header-c.ensures h.put_header-c.auto.bytes _ _
    t.put_fields-d.ensures t.put_fields-d.auto.buf _ _ u.put_fields.ensures

pub put_chain_spec : {M : Type 1} → statement M
put_chain_spec =
    tie.close
    (tie.spec put-header-requires mul-put-fields put-fields-requires put-fields-requires-2 same_length returns)
