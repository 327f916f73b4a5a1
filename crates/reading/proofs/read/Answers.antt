-- `read` is `read_as` in edition 1, which is sound.
use Rattle.layout.proofs.Editions.{edition1_sound}
use Rattle.reading.proofs.read.Goals as goal

pub read_as-requires : goal.read_as-requires
read_as-requires c = rw c.first_edition.ensures edition1_sound

pub returns : goal.returns
returns c =
    let r = rw c.first_edition.ensures at c.read_as.ensures in
    record { result_value = r.answered; steps_after = r.steps_left_lem; outputs_after = r.outputs_left }
