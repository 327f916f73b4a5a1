-- Each return is one test of the definition, decided.
use Rattle.table.proofs.Whole.{head_none, head_many, head_names, head_amounts}
use Rattle.table.proofs.read_headed.Goals as goal
use Rattle.table.proofs.read_headed.Goals.{then-p-eq0-via-then-p-eq0, then-p-eq0-via-else-p-eq0+then-p-gt-MOST_COLUMNS}

pub returns-then-p-eq0 : goal.returns-then-p-eq0
returns-then-p-eq0 c =
    elim c.then-p-eq0.branch [
      | then-p-eq0-via-then-p-eq0 w ↦ head_none _ _ _ _ _ w.if-p-eq0.true
      | then-p-eq0-via-else-p-eq0+then-p-gt-MOST_COLUMNS w ↦ head_many _ _ _ _ _ w.if-p-gt-MOST_COLUMNS.true
    ]

pub returns-then-head-eq0 : goal.returns-then-head-eq0
returns-then-head-eq0 c = head_names _ _ _ _ _ c.if-p-eq0.false c.if-p-gt-MOST_COLUMNS.false _ _ c.if-head-eq0.true c.read_rows.ensures

pub returns-else-head-eq0 : goal.returns-else-head-eq0
returns-else-head-eq0 c =
    head_amounts _ _ _ _ _ c.if-p-eq0.false c.if-p-gt-MOST_COLUMNS.false _ _ c.if-head-eq0.false c.read_rows-else-head-eq0.ensures
