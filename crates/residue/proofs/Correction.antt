-- m is taken off once more where that does not wrap: left - m modulo B = H + H is below H exactly if m is not above left.
use Rattle.std.proofs.Common.{◌≡◌, ℕ, ◌+◌, ◌-◌, ◌%◌, ◌^◌, ◌<◌, ◌≤◌, ◌⊎◌, sym, ap, ◌∙◌, inl, inr, lt_trans, le_of_lt, mod-eq_of_lt, arith, lit<}
use native.Mathlib.Nat.{add-mod_right}
use native.Mathlib.Decide.{dec_lt}
use Rattle.residue.proofs.Quotient.{LeftOver}

-- a sum modulo B is the sum, or B less
unwrap : (B r b a : ℕ) → r < B → b ≤ B → (r + b) % B ≡ a → (r + b ≡ a) ⊎ (r + b ≡ a + B)
unwrap B r b a low lent e = by_size (dec_lt (r + b) B)
  where
    by_size : Dec (r + b < B) → (r + b ≡ a) ⊎ (r + b ≡ a + B)
    by_size (yes lt) = inl (sym (mod-eq_of_lt lt) ∙ e)
    by_size (no ge) =
        let back : r + b - B + B ≡ r + b = omega arith in
        let rest : (r + b - B) % B ≡ a = sym (add-mod_right (r + b - B) B) ∙ ap (λ (n : ℕ). n % B) back ∙ e in
        let here : r + b - B ≡ a = sym (mod-eq_of_lt (omega arith)) ∙ rest in
        inr (omega arith)

module _ (H m left less : ℕ) (half : m ≤ H) (low : left < m + m) (less-low : less < H + H) (wraps : (less + m) % (H + H) ≡ left) where
  both : (less + m ≡ left) ⊎ (less + m ≡ left + (H + H))
  both = unwrap (H + H) less m left less-low (omega arith) wraps

  once_more : less < H → (less + m ≡ left) × (less < m)
  once_more h = by_wrap both
    where
      by_wrap : (less + m ≡ left) ⊎ (less + m ≡ left + (H + H)) → (less + m ≡ left) × (less < m)
      by_wrap (inl e) = (e, omega arith)
      by_wrap (inr e) = absurd (omega arith)

  no_more : H ≤ less → left < m
  no_more h = by_wrap both
    where
      by_wrap : (less + m ≡ left) ⊎ (less + m ≡ left + (H + H)) → left < m
      by_wrap (inl e) = absurd (omega arith)
      by_wrap (inr e) = omega arith

-- the two ways in which the code ends, each with the residue of z
pub record Corrected (m z r : ℕ) : Type 0 where
  pub is : r ≡ z % m
  pub low : r < 2 ^ 32

module _ {m z left less : ℕ} (l : LeftOver m z left) (m-low : m < 2 ^ 32) (less-low : less < 2 ^ 64) (wraps : (less + m) % 2 ^ 64 ≡ left) where
  half : m ≤ 2 ^ 63
  half = le_of_lt (lt_trans m-low (lit< tt))

  pub one_more : less < 2 ^ 63 → Corrected m z less
  one_more h =
      let e = once_more (2 ^ 63) m left less half l.low less-low wraps h in
      record { is = sym (mod-eq_of_lt e.1) ∙ sym (add-mod_right less m) ∙ ap (λ (n : ℕ). n % m) e.0 ∙ l.same; low = lt_trans e.1 m-low }

  pub as_it_is : 2 ^ 63 ≤ less → Corrected m z left
  as_it_is h =
      let e = no_more (2 ^ 63) m left less half l.low less-low wraps h in
      record { is = sym (mod-eq_of_lt e) ∙ l.same; low = lt_trans e m-low }
