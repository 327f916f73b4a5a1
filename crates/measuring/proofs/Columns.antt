-- A number of 32 bits has few digits, in whatever base.
use mathlib.Core.Path.{◌≡◌}
use Prim.Native.Nat.{ℕ, ◌*◌, ◌^◌, ◌≤◌, ◌<◌}
use native.Mathlib.Omega.{arith}
use lib.Pow.{pow_mono}
use Rattle.digits.specs.Digits.{digit_count}
use Rattle.digits.proofs.Count.{low_count}

-- a number of 32 bits has no more digits than bits
pub digits_low : (k x r : ℕ) → 0 < k → x < 2 ^ 32 → r ≡ digit_count k x → r ≤ 32
digits_low k x r some low e =
    let wide : 2 ^ 32 ≤ 2 ^ (k * 32) = pow_mono {i = 32} (omega arith) in
    omega (arith, low_count k some x 32 (omega arith))
