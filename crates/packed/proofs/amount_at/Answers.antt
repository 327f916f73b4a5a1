-- What each byte's digits say, at its weight, adds up to the amount (`amount_said`).
use Rattle.std.proofs.Common.{◌∙◌, sym, ap, arith}
use Rattle.packed.specs.Field.{amount_of}
use Rattle.packed.proofs.Field.{five_bytes, amount_said}
use Rattle.packed.proofs.amount_at.Goals as goal

pub returns : goal.returns
returns c =
    sym
    (ap amount_of (five_bytes c.args.bytes.now c.args.at c.requires) ∙ amount_said _ _ _ _ _
    ∙ omega (arith, c.said_by.ensures.is, c.said_by-2.ensures.is, c.said_by-3.ensures.is, c.said_by-4.ensures.is, c.first_said_by.ensures.is))
