-- After c turns the amounts of the first c columns stand in the text, none longer than the longest field.
use Rattle.std.proofs.Common.{◌+◌, ◌*◌, ◌≤◌}
use Rattle.digits.specs.Range.{list_to}
use Rattle.decimal.specs.Inner.{Put}
use Rattle.listing.specs.Listing.{more_fields}
use Rattle.listing.specs.Inner.{amount_in, most_field}
use Rattle.listing.proofs.put_amounts.Given as goal

abbrev pub invariant-loop-c : goal.invariant-loop-c
invariant-loop-c l = (l.end ≤ l.at + most_field * l.c) × Put l.at (more_fields (list_to l.c (amount_in l.table l.i))) l.fn.text l.end l.text
