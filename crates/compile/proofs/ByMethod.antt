-- What a method's emitter stored is the chain asked for, where the method is the one that the number names.
use mathlib.Core.Path.{◌≡◌}
use mathlib.Core.List.{List}
use Prim.Native.Nat.{ℕ}
use Rattle.methods.specs.Method.{Method}
use Rattle.methods.specs.Inner.{ChainStored}
use Rattle.products.specs.declared.Progress.{Progress}

pub emitted : {m n : Method} → m ≡ n → {steps outputs steps' outputs' : List ℕ} {r : Progress} → ChainStored steps outputs steps' outputs' r n.chain
    → ChainStored steps outputs steps' outputs' r m.chain
emitted same e = rw same e
