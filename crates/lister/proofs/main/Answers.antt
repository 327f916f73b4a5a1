-- The listing lies within the text that it was written over.
use Rattle.std.proofs.lemmas.List.{length-append, length-take-le}
use mathlib.Core.Path.{sym}
use native.Mathlib.Omega.{arith}
use Rattle.chain.specs.Written.{over}
use Rattle.lister.proofs.main.Goals as goal

-- src/main.rt:35:47
pub slice_bounds-text-end : goal.slice_bounds-text-end
unfolding over
slice_bounds-text-end c = rw (c.list-end.ensures.value, c.list-end.ensures.text_after, length-append) (omega arith)

-- src/main.rt:35:47
pub slice_bounds-write_all-end : goal.slice_bounds-write_all-end
unfolding over
slice_bounds-write_all-end c =
    sym (length-take-le _ _ (rw (c.list-end.ensures.value, c.list-end.ensures.text_after, length-append) (omega arith)))
