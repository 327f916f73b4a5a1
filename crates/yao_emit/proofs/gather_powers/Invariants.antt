-- One power a turn: b with the powers so far taken up.
use Rattle.products.specs.Inner.{product_in, Emitted}
use Rattle.yao_emit.specs.Inner.{gather_in}
use Rattle.yao_emit.proofs.gather_powers.Given as goal

abbrev pub invariant-loop-i : goal.invariant-loop-i
invariant-loop-i l = Emitted l.fn.steps l.steps l.r.progress l.r.value (gather_in l.column l.d l.i (product_in l.fn.steps l.fn.b))
