-- The four fields are read one after the other, each where the one before ends, so they are the header's.
use Rattle.std.proofs.Common.{◌≡◌, ◌+◌, List, ℕ, Bor, ap, ap₂, ◌∙◌}
use Rattle.bits.specs.Bits.{field_at}
use Rattle.bits.specs.Inner.{FieldTaken}
use Rattle.reading.specs.Inner.{header_in}
use Rattle.reading.specs.declared.Header.{Header}
use Rattle.reading.proofs.take_header.Goals as goal

-- the four fields of bytes l, through readers of the same bytes
header_of : (l l₁ l₂ l₃ : List ℕ) (bits e c q n a₁ a₂ a₃ a₄ : ℕ) → FieldTaken l 0 4 e a₁
    → l₁ ≡ l → FieldTaken l₁ a₁ 4 c a₂ → l₂ ≡ l₁ → FieldTaken l₂ a₂ 6 q a₃ → l₃ ≡ l₂ → FieldTaken l₃ a₃ bits n a₄
    → ◌≡◌ {A = Header} (record { edition = e; p = c + 1; q = q + 1; n = n }) (header_in l bits)
header_of l l₁ l₂ l₃ bits e c q n a₁ a₂ a₃ a₄ t₁ e₁ t₂ e₂ t₃ e₃ t₄ =
    let at₂ : a₂ ≡ 8 = t₂.moved ∙ ap (λ (i : ℕ). i + 4) t₁.moved in
    let at₃ : a₃ ≡ 14 = t₃.moved ∙ ap (λ (i : ℕ). i + 6) at₂ in
    let columns : c ≡ field_at l 4 4 = t₂.is ∙ ap₂ (λ (k : List ℕ) (i : ℕ). field_at k i 4) e₁ t₁.moved in
    let payslips : q ≡ field_at l 8 6 = t₃.is ∙ ap₂ (λ (k : List ℕ) (i : ℕ). field_at k i 6) (e₂ ∙ e₁) at₂ in
    let steps : n ≡ field_at l 14 bits = t₄.is ∙ ap₂ (λ (k : List ℕ) (i : ℕ). field_at k i bits) (e₃ ∙ e₂ ∙ e₁) at₃ in
    rw (t₁.is, columns, payslips, steps)

pub returns : goal.returns
returns c =
    header_of _ _ _ _ _ _ _ _ _ _ _ _ _ c.take-edition.ensures.0 (ap (λ (s : Bor (List ℕ)). s.now) c.take-edition.ensures.1)
    c.take-columns.ensures.0 (ap (λ (s : Bor (List ℕ)). s.now) c.take-columns.ensures.1)
    c.take-payslips.ensures.0 (ap (λ (s : Bor (List ℕ)). s.now) c.take-payslips.ensures.1) c.take-steps.ensures.0
