-- In each round b takes up the powers of d and a takes up b: both have room because the whole sweep has it.
use Rattle.std.proofs.Common.{ℕ, ◌≡◌, ◌+◌, ◌-◌, ◌^◌, arith}
use lib.Pow.{pow_pos}
use Rattle.products.specs.Inner.{steps_in}
use Rattle.yao_emit.proofs.Emitting.{sweep_start, b_room, a_room, a_on}
use Rattle.yao_emit.proofs.sweep_column.Goals as goal

pub loop-d-init : goal.loop-d-init
loop-d-init c =
    let a = c.args in
    let none : c.power-d.result - c.power-d.result ≡ 0 = omega arith in
    record {
      some = omega (arith, c.power-d.ensures, pow_pos a.column.k);
      swept = rw none (sweep_start a.column.p a.column _ _ _ c.requires.room);
    }

pub gather_powers-b-requires : goal.gather_powers-b-requires
gather_powers-b-requires c =
    let a = c.args in
    let round : ℕ = c.power-d.result - c.loop-d.d in
    record {
      asked = c.requires.asked;
      room =
          b_room a.column (steps_in a.steps.now a.progress.steps) a.steps.now _ _ _ _ round c.loop-d.invariant.swept (c.loop-d.d - 1)
          (omega (arith, c.power-d.ensures, c.loop-d.auto.d, c.loop-d-test.true)) (2 ^ a.column.k - 1) _ c.requires.room
          (omega (arith, c.power-d.ensures, c.loop-d.auto.d, c.loop-d-test.true));
    }

pub times-a-requires : goal.times-a-requires
times-a-requires c =
    let a = c.args in
    let round : ℕ = c.power-d.result - c.loop-d.d in
    a_room a.column (steps_in a.steps.now a.progress.steps) a.steps.now _ _ _ _ round c.loop-d.invariant.swept (c.loop-d.d - 1)
    (omega (arith, c.power-d.ensures, c.loop-d.auto.d, c.loop-d-test.true)) _ _ _ c.gather_powers-b.ensures (2 ^ a.column.k - 1) _ c.requires.room
    (omega (arith, c.power-d.ensures, c.loop-d.auto.d, c.loop-d-test.true))

pub loop-d-preserved : goal.loop-d-preserved
loop-d-preserved c =
    let a = c.args in
    let round : ℕ = c.power-d.result - c.loop-d.d in
    let next : c.power-d.result - (c.loop-d.d - 1) ≡ round + 1 = omega (arith, c.loop-d.auto.d, c.loop-d-test.true) in
    record {
      some = omega (arith, c.loop-d-test.true);
      swept =
          rw next
          (a_on a.column (steps_in a.steps.now a.progress.steps) a.steps.now _ _ _ _ round c.loop-d.invariant.swept (c.loop-d.d - 1)
          (omega (arith, c.power-d.ensures, c.loop-d.auto.d, c.loop-d-test.true)) _ _ _ c.gather_powers-b.ensures _ _ _ c.times-a.ensures);
    }
