-- What copy_within promises of each cell.
use Rattle.cuts.proofs.Laying.{copied}
use Rattle.cuts.proofs.copy.Goals as goal

pub returns : goal.returns
returns c =
    let e = c.copy_within.ensures in
    copied _ _ _ _ _ c.requires e.len (λ k h g. e.by_index.0 k 0 h g) (λ k h. e.by_index.1 k 0 h) (λ k h. e.by_index.2 k 0 h)
