-- Tables of examples: a row is what the definitions give and what it should be, both as numbers. One computed test proves a whole table.
use Rattle.std.specs.Prelude.{◌≡◌, refl, Bool, true, false, ◌&&◌, List, [], ◌∷◌, ℕ, zero, suc, ◌<◌, length, get_or, T, eqb}
use Rattle.std.proofs.Common.{ap₂, eqb→eq, not-suc-le-zero, le_of_suc-le-suc}
use Rattle.chain.specs.Tests.{◌<?◌, ◌≤?◌, ◌=?◌, ◌≠?◌, ◌or◌}
use Rattle.chain.specs.Verdict.{Verdict, fine, refused, ◌then◌, refuse_if, refuse_at, Answer, done, refusal, answer, on_fine}
use Rattle.chain.specs.Written.{over}
use Rattle.chain.specs.Chain.{sizes_rule, length_rule, shape_rule, step_rule, chain_rule, legal_rule, exponents, one, squarings_of, products_of, counts}
use Rattle.sheet.specs.Sheet.{amounts_rule, sheet_rule}
use Rattle.digits.specs.Digits.{digit_count, bit_length}
use Rattle.residue.specs.Residue.{figure}
use Rattle.verify.specs.Verify.{over_or, other_or, exponents_rule, payslips_rule, fitting_rule, verify_rule, verify_answer, verify_scratch}
use Rattle.run.specs.Run.{residues, run_rule, run_answer, run_values, run_figures}
use Rattle.bits.specs.Bits.{bits, fields, value, bytes_bits, front, pack, fields_at}
use Rattle.layout.specs.File.{file_bits, file_of, held_rule, write_rule, write_answer, write_bytes, steps_of, outputs_of, read_rule, read_answer, read_steps, read_outputs}
use Rattle.products.specs.Product.{times}
use Rattle.tables.specs.Table.{entry, table_next}
use Rattle.straus.specs.Straus.{straus_digits, straus, straus_count, straus_ceiling}
use Rattle.yao.specs.Yao.{yao_digits, gather_one, yao, yao_count, yao_ceiling}
use Rattle.groups.specs.Groups.{column_bits, inputs, selection}
use Rattle.partition.specs.Partition.{partition, partition_count, partition_ceiling}
use Rattle.parameters.specs.Parameters.{method_rule}
use Rattle.quote.specs.ByMethod.{method_of, count_rule, ceiling_answer}
use Rattle.compile.specs.Compile.{accepted_rule, compile_rule, compile_answer, compile_steps, compile_outputs}
use Rattle.choose.specs.Choose.{file_rule, better, unless, choose_rule, choice}
use Rattle.answers.specs.Answers.{Choice, first, second, neither}
use Rattle.decimal.specs.Decimal.{decimal}
use Rattle.listing.specs.Listing.{line_of, listing_rule, chain_text, refused_text, text_for, listing}

pub record Row : Type 0 where
  pub got : List ℕ
  pub want : List ℕ

infix 90 ◌gives◌
abbrev pub ◌gives◌ : List ℕ → List ℕ → Row
got gives want = record { got = got; want = want }

abbrev pub Holds : Row → Type 0
Holds r = r.got ≡ r.want

abbrev pub same : List ℕ → List ℕ → Bool
same [] [] = true
same [] (y ∷ ys) = false
same (x ∷ xs) [] = false
same (x ∷ xs) (y ∷ ys) = eqb x y && same xs ys

abbrev pub all : List Row → Bool
all [] = true
all (r ∷ rs) = same r.got r.want && all rs

and_left : (a b : Bool) → T (a && b) → T a
and_left true b t = tt
and_left false b t = t

and_right : (a b : Bool) → T (a && b) → T b
and_right true b t = t
and_right false b t = absurd t

same_equal : (xs ys : List ℕ) → T (same xs ys) → xs ≡ ys
same_equal [] [] t = refl
same_equal [] (y ∷ ys) t = absurd t
same_equal (x ∷ xs) [] t = absurd t
same_equal (x ∷ xs) (y ∷ ys) t =
    ap₂ ◌∷◌ (eqb→eq x y (and_left (eqb x y) (same xs ys) t)) (same_equal xs ys (and_right (eqb x y) (same xs ys) t))

-- each row of a table that passes the test holds
pub rows_hold : (l : List Row) (d : Row) → T (all l) → (k : ℕ) → k < length l → Holds (get_or l k d)
rows_hold [] d t k h = absurd (not-suc-le-zero h)
rows_hold (r ∷ rs) d t zero h = same_equal r.got r.want (and_left (same r.got r.want) (all rs) t)
rows_hold (r ∷ rs) d t (suc k) h = rows_hold rs d (and_right (same r.got r.want) (all rs) t) k (le_of_suc-le-suc h)

-- a verdict, an answer and a choice as numbers: the refusal's number, 0 for none, and its place; an answer's values; the file chosen
abbrev pub verdict : Verdict → List ℕ
verdict fine = 0 ∷ []
verdict (refused n s) = n ∷ s ∷ []

abbrev pub answered : Answer → List ℕ
answered (done vs) = 0 ∷ vs
answered (refusal n s) = n ∷ s ∷ []

abbrev pub chosen : Choice → List ℕ
chosen first = 1 ∷ []
chosen second = 2 ∷ []
chosen (neither n s) = 0 ∷ n ∷ s ∷ []

-- all that the tables compute with: chains, the check and the run
unfoldable pub chain_definitions : Unit {0}
unfolding ◌<?◌ ◌≤?◌ ◌=?◌ ◌≠?◌ ◌or◌ ◌then◌ refuse_if refuse_at answer on_fine over sizes_rule length_rule step_rule chain_rule legal_rule shape_rule exponents one
    squarings_of products_of counts
chain_definitions = tt

unfoldable pub check_definitions : Unit {0}
unfolding amounts_rule sheet_rule figure over_or other_or exponents_rule payslips_rule fitting_rule verify_rule verify_answer verify_scratch
check_definitions = tt

unfoldable pub run_definitions : Unit {0}
unfolding residues run_rule run_answer run_values run_figures
run_definitions = tt

-- files
unfoldable pub field_definitions : Unit {0}
unfolding digit_count bit_length bits fields value bytes_bits front pack fields_at
field_definitions = tt

unfoldable pub file_definitions : Unit {0}
unfolding held_rule file_bits file_of write_rule write_answer write_bytes steps_of outputs_of read_rule read_answer read_steps read_outputs
file_definitions = tt

-- methods
unfoldable pub method_definitions : Unit {0}
unfolding times entry table_next straus_digits straus straus_count straus_ceiling yao_digits gather_one yao yao_count yao_ceiling column_bits inputs selection
method_definitions = tt

unfoldable pub compile_definitions : Unit {0}
unfolding partition partition_count partition_ceiling method_rule method_of count_rule ceiling_answer accepted_rule compile_rule compile_answer compile_steps compile_outputs
compile_definitions = tt

-- the chooser and the lister
unfoldable pub other_definitions : Unit {0}
unfolding file_rule better unless choose_rule choice decimal line_of listing_rule chain_text refused_text text_for listing
other_definitions = tt

-- a table that unfolds this unfolds every definition that reads the specification, but for the whole path's
unfoldable pub definitions : Unit {0}
unfolding chain_definitions check_definitions run_definitions field_definitions file_definitions method_definitions compile_definitions other_definitions
definitions = tt
