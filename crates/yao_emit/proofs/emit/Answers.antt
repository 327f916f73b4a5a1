-- The columns' digits are those of their largest amounts. The squarings come from them, and their first p cells are the chain's counts.
use Rattle.std.proofs.Common.{rules}
use Rattle.methods.proofs.Filling.{filled_front}
use Rattle.yao.proofs.Measuring.{columns_measured}
use Rattle.yao_emit.proofs.emit.Goals as goal

pub all_squarings-requires : goal.all_squarings-requires
all_squarings-requires c =
    let asked = c.requires.asked in
    let measured = columns_measured c.args.p c.args.q c.args.amounts.now c.args.k _ _ _ (search rules) (λ j. (c.type_inv.largest j).fits) asked.largest
    (search rules) c.measure_digits.ensures in
    record { asked = measured.narrow; room = search rules }

pub make_chain-requires : goal.make_chain-requires
make_chain-requires c =
    let asked = c.requires.asked in
    let measured = columns_measured c.args.p c.args.q c.args.amounts.now c.args.k _ _ _ (search rules) (λ j. (c.type_inv.largest j).fits) asked.largest
    (search rules) c.measure_digits.ensures in
    record {
      asked =
          record {
            chain = record { ranges = asked.ranges; measured = measured };
            counts_are = filled_front _ _ c.args.p _ c.all_squarings.ensures;
          };
      room = c.requires.room;
    }
