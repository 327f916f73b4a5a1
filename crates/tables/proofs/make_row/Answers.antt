-- Each turn's entry is one of the row, and its step has room within the row's.
use Rattle.std.proofs.Common.{ℕ, ◌+◌, ap, arith, rules}
use Rattle.tables.proofs.Rows.{in_row, row_rises, more_so_far, longer_end, rowing}
use Rattle.tables.proofs.make_row.Goals as goal

pub put_entry-s-requires : goal.put_entry-s-requires
put_entry-s-requires c =
    let asked = c.requires.asked in
    let r = in_row _ _ _ _ asked.k_some c.power-t.ensures c.power-end.ensures _ _ asked.inside c.loop-t.auto.t c.loop-t-test.true in
    record {
      asked =
          record {
            counted =
                record {
                  entry =
                      record {
                        k_some = asked.k_some;
                        k_low = asked.k_low;
                        at_some = asked.at_some;
                        number_low = omega (arith, r.inside, asked.numbers_low);
                        inside = r.inside;
                      };
                  t_some = r.some;
                  digits_are = r.count;
                };
            other = r.other;
          };
      room = record { so_far = c.loop-t.invariant.so_far; enough = omega (arith, c.requires.room.enough, c.loop-t.invariant.counted) };
    }

pub loop-t-preserved : goal.loop-t-preserved
loop-t-preserved c = record {
  counted = search rules;
  so_far = more_so_far (omega (arith, c.requires.room.enough, c.loop-t.invariant.counted)) c.put_entry-s.ensures;
  grown = search rowing;
}

pub returns : goal.returns
returns c =
    let rises = row_rises _ _ _ _ c.requires.asked.k_some c.power-t.ensures c.power-end.ensures in
    longer_end _ _ _ _ _ _ _ _ _ _ _ _ (ap (λ (n : ℕ). n + 1) c.power-t.ensures) (c.loop-t.auto.t-end rises) c.loop-t-test.false
    c.power-end.ensures c.loop-t.invariant.grown
