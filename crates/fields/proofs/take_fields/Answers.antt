-- A short file's fields are those of the copy that begins with it (`long_taken`).
use Rattle.fields.proofs.Taking.{long_taken}
use Rattle.fields.proofs.take_fields.Goals as goal

pub returns-then-file-lt8 : goal.returns-then-file-lt8
returns-then-file-lt8 c = long_taken _ _ _ c.lengthen.ensures _ _ _ _ c.requires _ _ c.take_long.ensures
