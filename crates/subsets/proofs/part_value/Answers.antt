-- A group's members are a stretch of the inputs, and its table begins where the full tables before it end.
use Rattle.std.proofs.Common.{rules}
use Rattle.subsets.proofs.Places.{entry_low, entry_number, number_fits}
use Rattle.subsets.proofs.part_value.Goals as goal

pub entry-requires : goal.entry-requires
entry-requires c =
    let is = c.group_size.ensures in
    let at = number_fits c.args.s c.requires.cuts c.args.g _ c.requires.inside c.table_count.ensures.low in
    record {
      k_some = search rules;
      k_low = search rules;
      at_some = search rules;
      number_low = entry_number c.requires is at;
      inside = entry_low c.requires is;
    }
