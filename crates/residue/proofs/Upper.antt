-- Two numbers of two digits multiplied, in any base: dividing by the base twice lets the whole digits out each time, and what is left of a sum is its carry.
use Rattle.std.proofs.Common.{◌≡◌, ℕ, ◌+◌, ◌*◌, ◌/◌, ◌%◌, ◌<◌, sym, refl, ap, ◌∙◌, add_assoc, mul_assoc, mul_comm, add-mul, add_comm, div-add-mod', mul-add, mul_left_comm, arith}
use native.Mathlib.Nat.{add_left_comm, mul-add-div_right, div-div-eq-div-mul}

module _ (B : ℕ) (some : 0 < B) (u₁ u₀ v₁ v₀ : ℕ) where
  -- the middle column with the carry from the last one, and what the next one adds to its digit
  abbrev pub middle : ℕ
  middle = u₁ * v₀ + u₀ * v₀ / B

  abbrev pub next : ℕ
  next = middle % B + u₀ * v₁

  by_columns : (u₁ * B + u₀) * (v₁ * B + v₀) ≡ (u₁ * v₁ * B + (u₁ * v₀ + u₀ * v₁)) * B + u₀ * v₀
  by_columns = simp (mul-add, add-mul, mul_assoc, mul_comm, mul_left_comm, add_assoc, add_comm, add_left_comm) refl

  -- the product without its last digit
  once : (u₁ * B + u₀) * (v₁ * B + v₀) / B ≡ u₁ * v₁ * B + (middle + u₀ * v₁)
  once =
      ap (λ (n : ℕ). n / B) by_columns
      ∙ mul-add-div_right some (u₁ * v₁ * B + (u₁ * v₀ + u₀ * v₁)) (u₀ * v₀)
      ∙ carried (u₁ * v₁ * B) (u₁ * v₀) (u₀ * v₁) (u₀ * v₀ / B)
    where
      carried : (a b c d : ℕ) → a + (b + c) + d ≡ a + (b + d + c)
      carried a b c d = omega arith

  -- a sum without its last digit is the first number's upper digits, and the carry
  carry : (middle + u₀ * v₁) / B ≡ middle / B + next / B
  carry =
      ap (λ (n : ℕ). (n + u₀ * v₁) / B) (sym (div-add-mod' middle B))
      ∙ ap (λ (n : ℕ). n / B) (add_assoc (middle / B * B) (middle % B) (u₀ * v₁))
      ∙ mul-add-div_right some (middle / B) next

  -- the product without its last two digits
  pub upper : (u₁ * B + u₀) * (v₁ * B + v₀) / (B * B) ≡ u₁ * v₁ + middle / B + next / B
  upper =
      sym (div-div-eq-div-mul ((u₁ * B + u₀) * (v₁ * B + v₀)) B B)
      ∙ ap (λ (n : ℕ). n / B) once
      ∙ mul-add-div_right some (u₁ * v₁) (middle + u₀ * v₁)
      ∙ ap (λ (n : ℕ). u₁ * v₁ + n) carry
      ∙ sym (add_assoc (u₁ * v₁) (middle / B) (next / B))
