-- `write` is `write_as` in edition 1, which is sound.
use Rattle.layout.proofs.Editions.{edition1_sound}
use Rattle.writing.proofs.write.Goals as goal

pub write_as-requires : goal.write_as-requires
write_as-requires c = rw c.first_edition.ensures edition1_sound

pub returns : goal.returns
returns c =
    let written = rw c.first_edition.ensures at c.write_as.ensures in
    record { result_value = written.answered; bytes_after = written.left }
