-- Numbers in blocks of b: number t of block g is g b + t, and a sum over all of them is one block by block.
use mathlib.Core.Path.{◌≡◌, ap, ◌∙◌}
use Prim.Native.Nat.{ℕ, zero, suc, ◌+◌, ◌*◌, ◌/◌, ◌%◌, ◌<◌}
use native.Mathlib.Nat.{add_comm, add-mul-div_right, add-mul-mod_self_right, div-eq_of_lt, mod-eq_of_lt, suc-mul, zero-mul}
use native.Mathlib.Omega.{arith}
use Rattle.digits.specs.Range.{sum_to}
use Rattle.digits.proofs.Range.{sum_split}

pub block_div : (g b t : ℕ) → t < b → (g * b + t) / b ≡ g
block_div g b t h = ap (λ (k : ℕ). k / b) (add_comm (g * b) t) ∙ add-mul-div_right t g (omega arith) ∙ omega (arith, div-eq_of_lt h)

pub block_mod : (g b t : ℕ) → t < b → (g * b + t) % b ≡ t
block_mod g b t h = ap (λ (k : ℕ). k % b) (add_comm (g * b) t) ∙ add-mul-mod_self_right t g b ∙ mod-eq_of_lt h

pub sum_blocks : (n b : ℕ) (f : ℕ → ℕ) → sum_to (n * b) f ≡ sum_to n (λ g. sum_to b (λ t. f (g * b + t)))
sum_blocks zero b f = ap (λ (k : ℕ). sum_to k f) (zero-mul b)
sum_blocks (suc n) b f =
    ap (λ (k : ℕ). sum_to k f) (suc-mul n b) ∙ sum_split (n * b) b f ∙ ap (λ (s : ℕ). s + sum_to b (λ t. f (n * b + t))) (sum_blocks n b f)
