-- The measured cells are the columns' bits, over which both sums run; so the numbers are theirs.
use Rattle.groups.proofs.Measured.{columns_grouped, measured_narrow}
use Rattle.groups.proofs.group_columns.Goals as goal

pub column_sum-inputs-requires : goal.column_sum-inputs-requires
column_sum-inputs-requires c = measured_narrow _ _ _ _ c.measure_digits.ensures c.requires.columns (λ j. (c.type_inv.largest j).fits)

pub column_sum-squarings-requires : goal.column_sum-squarings-requires
column_sum-squarings-requires c = measured_narrow _ _ _ _ c.measure_digits.ensures c.requires.columns (λ j. (c.type_inv.largest j).fits)

pub returns : goal.returns
returns c =
    columns_grouped _ _ _ _ c.requires c.measure_digits.ensures c.column_sum-inputs.ensures c.group_count-groups.ensures
    c.column_sum-squarings.ensures
