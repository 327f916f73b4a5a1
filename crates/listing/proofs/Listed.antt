-- The verdict decides the text, and a table that holds the file's amounts gives the same lines as the file.
use mathlib.Core.Path.{◌≡◌, refl, sym, ap, ap₂, subst, ◌∙◌}
use mathlib.Core.List.{List, [], ◌∷◌, ◌++◌}
use Prim.Native.Nat.{ℕ, zero, suc, ◌≤◌, ◌<◌}
use native.Mathlib.Omega.{arith}
use lib.ListN.{length, get_or}
use Rattle.chain.specs.Verdict.{fine, refused, done, refusal, answer}
use Rattle.chain.specs.Written.{over}
use Rattle.chain.specs.Chain.{most_columns, most_payslips, counts}
use Rattle.chain.proofs.Rules.{then_fine}
use Rattle.chain.proofs.Written.{over_laid}
use Rattle.layout.specs.Layout.{edition1}
use Rattle.layout.specs.File.{columns_of, payslips_of, length_of}
use Rattle.answers.specs.Answers.{counts_in}
use Rattle.answers.specs.declared.Counts.{Counts}
use Rattle.layout.proofs.Readable.{readable, columns_low, payslips_low}
use Rattle.layout.proofs.OneFile.{length_steps_of}
use Rattle.chain.proofs.Told.{told, told_values_lem}
use Rattle.digits.proofs.Listed.{list_same}
use Rattle.listing.specs.Listing.{line_of, payslip_lines, amount_of, listing_rule, chain_text, refused_text, text_for, listing}
use Rattle.listing.specs.Inner.{amount_in, TableHolds, sizes_of}
use Rattle.decimal.specs.Inner.{Put}

-- the lines of payslips with the same amounts
lines_same : (p : ℕ) (f g : ℕ → ℕ → ℕ) (q : ℕ) → ((i c : ℕ) → i < q → c < p → f i c ≡ g i c) → payslip_lines p f q ≡ payslip_lines p g q
lines_same p f g zero e = refl
lines_same p f g (suc q) e =
    ap₂ (λ (l m : List ℕ). l ++ line_of (suc q) m) (lines_same p f g q (λ i c h k. e i c (omega arith) k)) (list_same p (f q) (g q) (λ c k. e q c (omega arith) k))

-- a text over the front
over_front : (t old : List ℕ) (r : ℕ) (new : List ℕ) → Put 0 t old r new → (r ≡ length t) × (new ≡ over t old)
over_front t old r new w = (w.place ∙ omega arith, w.text ∙ sym (over_laid t old))

-- what the file's answer tells, and the text that was written
module _ (bytes : List ℕ) where
  pub listed_refused : (k s : ℕ) (old : List ℕ) (r : ℕ) (new : List ℕ) → refusal k s ≡ answer (listing_rule bytes) (sizes_of bytes) → Put 0 (refused_text k) old r new
      → (r ≡ length (listing bytes)) × (new ≡ over (listing bytes) old)
  unfolding listing text_for
  listed_refused k s old r new answered w =
      let e : listing_rule bytes ≡ refused k s = sym (told _ _ _ answered) in
      rw e (over_front (refused_text k) old r new w)

  module _ (p q : ℕ) (c : Counts) (answered : done (p ∷ q ∷ counts_in c) ≡ answer (listing_rule bytes) (sizes_of bytes)) where
    abbrev n : ℕ
    n = c.steps

    sizes_are : ◌≡◌ {A = List ℕ} (p ∷ q ∷ counts_in c) (sizes_of bytes)
    sizes_are = told_values_lem _ _ _ answered

    columns_are : p ≡ columns_of bytes
    columns_are = ap (λ (l : List ℕ). get_or l 0 0) sizes_are

    payslips_are : q ≡ payslips_of bytes
    payslips_are = ap (λ (l : List ℕ). get_or l 1 0) sizes_are

    steps_are : n ≡ length_of edition1 bytes
    unfolding counts
    steps_are = ap (λ (l : List ℕ). get_or l 2 0) sizes_are ∙ length_steps_of edition1 bytes

    rule_fine : listing_rule bytes ≡ fine
    rule_fine = sym (told _ _ _ answered)

    pub columns_few : p ≤ most_columns
    columns_few = rw columns_are (columns_low bytes)

    pub payslips_few : q ≤ most_payslips
    payslips_few = rw payslips_are (payslips_low bytes)

    pub steps_few : n ≤ edition1.limit
    unfolding listing_rule
    steps_few = rw steps_are (omega (arith, (readable edition1 bytes _ _ (then_fine _ _ (then_fine _ _ rule_fine).1).0).few))

    pub listed_chain : (table old : List ℕ) (r : ℕ) (new : List ℕ)
        → (listing_rule bytes ≡ fine → TableHolds table (payslips_of bytes) (columns_of bytes) (amount_of bytes))
        → Put 0 (chain_text p q n (amount_in table)) old r new → (r ≡ length (listing bytes)) × (new ≡ over (listing bytes) old)
    unfolding listing text_for chain_text
    listed_chain table old r new holds w =
        let e : chain_text p q n (amount_in table) ≡ chain_text (columns_of bytes) (payslips_of bytes) (length_of edition1 bytes) (amount_of bytes) =
        rw (columns_are, payslips_are, steps_are)
        (ap (λ (l : List ℕ). line_of (columns_of bytes) (payslips_of bytes ∷ length_of edition1 bytes ∷ []) ++ l)
        (lines_same (columns_of bytes) (amount_in table) (amount_of bytes) (payslips_of bytes) (λ i j h k. (holds rule_fine).each i j h k))) in
        rw rule_fine (over_front _ old r new (subst (λ (t : List ℕ). Put 0 t old r new) e w))
