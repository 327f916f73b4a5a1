-- What is accepted passes before that, and so keeps to its ranges; and its chain is not too long.
use mathlib.Core.Path.{◌≡◌}
use mathlib.Core.List.{List}
use Prim.Native.Nat.{ℕ, ◌≤◌}
use Rattle.chain.specs.Verdict.{fine}
use Rattle.chain.specs.Chain.{most_steps}
use Rattle.chain.proofs.Rules.{then_fine}
use Rattle.chain.proofs.Sizes.{length-fits}
use Rattle.quote.specs.ByMethod.{count}
use Rattle.quote.proofs.Fits.{InRange, in_range}
use Rattle.compile.specs.Compile.{accepted_rule}

pub record Accepted (p q : ℕ) (amounts : List ℕ) (method k : ℕ) : Type 0 where
  pub ranges : InRange p q amounts method k
  pub short : count p q amounts method k ≤ most_steps

pub accepted : (p q : ℕ) (amounts : List ℕ) (method k : ℕ) → accepted_rule p q amounts method k ≡ fine → Accepted p q amounts method k
unfolding accepted_rule
accepted p q amounts method k e =
    let a = then_fine _ _ e in
    record { ranges = in_range p q amounts method k a.0; short = length-fits most_steps (count p q amounts method k) a.1 }
