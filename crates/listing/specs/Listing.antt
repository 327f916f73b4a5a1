-- The listing of a file, as bytes of text (Spec 9).
use Rattle.std.specs.Prelude.{List, [], ◌∷◌, ◌++◌, ℕ, zero, suc, length, get_or}
use Rattle.chain.specs.Tests.{◌<?◌}
use Rattle.chain.specs.Verdict.{Verdict, fine, refused, ◌then◌, refuse_if}
use Rattle.chain.specs.Chain.{most_payslips, exponent_of}
use Rattle.digits.specs.Range.{list_to}
use Rattle.verify.specs.Verify.{exponents_rule}
use Rattle.decimal.specs.Decimal.{blank, newline, refused_word, decimal}
use Rattle.layout.specs.Layout.{edition1}
use Rattle.layout.specs.File.{longest_file, columns_of, payslips_of, length_of, steps_of, outputs_of, read_rule}

-- Spec 9: the numbers after a line's first, a blank before each
abbrev pub more_fields : List ℕ → List ℕ
more_fields [] = []
more_fields (x ∷ r) = (blank ∷ decimal x) ++ more_fields r

-- Spec 9: a line of numbers, with its newline
unfoldable pub line_of : ℕ → List ℕ → List ℕ
line_of x r = decimal x ++ (more_fields r ++ newline ∷ [])

-- Spec 9: the lines of the first payslips of p columns; f i c is the amount of payslip i in column c, both counted from 0
abbrev pub payslip_lines : ℕ → (ℕ → ℕ → ℕ) → ℕ → List ℕ
payslip_lines p f zero = []
payslip_lines p f (suc i) = payslip_lines p f i ++ line_of (suc i) (list_to p (f i))

-- Spec 9: the amount that a file gives payslip i in column c: the exponent of the payslip's output
abbrev pub amount_of : List ℕ → ℕ → ℕ → ℕ
amount_of bytes i c = exponent_of (columns_of bytes) (steps_of edition1 bytes) c (get_or (outputs_of edition1 bytes) i 0)

-- Spec 9: 6 for more bytes than the longest file, then what reading finds, then 13
unfoldable pub listing_rule : List ℕ → Verdict
listing_rule bytes =
    refuse_if (longest_file <? length bytes) 6 0
    then read_rule edition1 bytes edition1.limit most_payslips
    then exponents_rule (columns_of bytes) (steps_of edition1 bytes)

-- Spec 9: the text for p columns, q payslips and n steps
unfoldable pub chain_text : ℕ → ℕ → ℕ → (ℕ → ℕ → ℕ) → List ℕ
chain_text p q n f = line_of p (q ∷ n ∷ []) ++ payslip_lines p f q

-- Spec 9: the one line of a refusal
unfoldable pub refused_text : ℕ → List ℕ
refused_text k = refused_word ++ line_of k []

unfoldable pub text_for : Verdict → List ℕ → List ℕ
text_for fine bytes = chain_text (columns_of bytes) (payslips_of bytes) (length_of edition1 bytes) (amount_of bytes)
text_for (refused k s) bytes = refused_text k

unfoldable pub listing : List ℕ → List ℕ
listing bytes = text_for (listing_rule bytes) bytes
