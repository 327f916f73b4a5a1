-- One column a turn: the sum of the squarings so far, of which no column has many.
use Rattle.std.proofs.Common.{◌≡◌, ◌*◌, ◌≤◌}
use Rattle.digits.specs.Range.{sum_to}
use Rattle.yao.specs.Inner.{squarings_in, squarings_most}
use Rattle.yao_count.proofs.squaring_count.Given as goal

abbrev pub invariant-loop-digits : goal.invariant-loop-digits
invariant-loop-digits l = record {
  counted : l.n ≡ sum_to l.digits-index (squarings_in l.k l.columns);
  low : l.n ≤ squarings_most * l.digits-index;
}
