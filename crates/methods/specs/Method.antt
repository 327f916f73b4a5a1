-- What a method gives for a sheet and a parameter (Spec 3): its chain, its count and its ceiling.
use Rattle.std.specs.Prelude.{ℕ}
use Rattle.chain.specs.Chain.{Chain}

pub record Method : Type 0 where
  pub chain : Chain
  pub count : ℕ
  pub ceiling : ℕ
