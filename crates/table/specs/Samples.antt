-- Samples of tables, computed. What each text is stands in its row's comment, as in C.
use Rattle.std.specs.Prelude.{◌≡◌, refl, List, [], ◌∷◌, ℕ, zero, suc}
use Rattle.chain.specs.Tests.{◌<?◌, ◌=?◌, ◌≠?◌, ◌or◌}
use Rattle.places.specs.declared.Fault.TheVariants.{OutOfRange, NoRoom, Unreadable, TooLarge, CutOff, OtherFields, Grouped, Signed, NoAmount}
use Rattle.places.specs.Places.{after_byte, spot_of, mark_length, is_cut, cut_text, values, refused}
use Rattle.text.specs.Text.{fault_of, plain_kind, word_kind, free_kind, field_kind, grown, begun, before, follow, read_from, read_text, outcome}
use Rattle.lines.specs.Lines.{content_length, same_unit, digit_unit, tally_of, parting_of, separators_in, head_of}
use Rattle.table.specs.Table.{row_found, joined, after_row, rows_end, rows_from, headed, table_lines, table_in, table_of}

-- so many lines "7\n"
abbrev sevens : ℕ → List ℕ
sevens zero = []
sevens (suc n) = 55 ∷ 10 ∷ sevens n

pub record Samples : Type 0 where
  -- each separator: a tab, else a semicolon, else a comma, else blanks
  -- "187\t20\n5\t6\n"
  pub tabs : table_of (49 ∷ 56 ∷ 55 ∷ 9 ∷ 50 ∷ 48 ∷ 10 ∷ 53 ∷ 9 ∷ 54 ∷ 10 ∷ []) 9 ≡ outcome (values 2 2) (187 ∷ 20 ∷ 5 ∷ 6 ∷ [])
  -- "187;20\n5;6\n"
  pub semicolons : table_of (49 ∷ 56 ∷ 55 ∷ 59 ∷ 50 ∷ 48 ∷ 10 ∷ 53 ∷ 59 ∷ 54 ∷ 10 ∷ []) 9 ≡ outcome (values 2 2) (187 ∷ 20 ∷ 5 ∷ 6 ∷ [])
  -- "187,20\n5,6\n"
  pub commas : table_of (49 ∷ 56 ∷ 55 ∷ 44 ∷ 50 ∷ 48 ∷ 10 ∷ 53 ∷ 44 ∷ 54 ∷ 10 ∷ []) 9 ≡ outcome (values 2 2) (187 ∷ 20 ∷ 5 ∷ 6 ∷ [])
  -- "  187 20\n5  6 \n"
  pub blanks : table_of (32 ∷ 32 ∷ 49 ∷ 56 ∷ 55 ∷ 32 ∷ 50 ∷ 48 ∷ 10 ∷ 53 ∷ 32 ∷ 32 ∷ 54 ∷ 32 ∷ 10 ∷ []) 9 ≡ outcome (values 2 2) (187 ∷ 20 ∷ 5 ∷ 6 ∷ [])
  -- the first line decides, in this order
  -- "1;2\t3\n"
  pub tab_first : table_of (49 ∷ 59 ∷ 50 ∷ 9 ∷ 51 ∷ 10 ∷ []) 9 ≡ outcome (refused Unreadable 1 2 59 0) []
  -- "187,50;20,00\n"
  pub semicolon_first : table_of (49 ∷ 56 ∷ 55 ∷ 44 ∷ 53 ∷ 48 ∷ 59 ∷ 50 ∷ 48 ∷ 44 ∷ 48 ∷ 48 ∷ 10 ∷ []) 9 ≡ outcome (refused Grouped 1 4 44 0) []
  -- "1 2\n3;4\n"
  pub second_line : table_of (49 ∷ 32 ∷ 50 ∷ 10 ∷ 51 ∷ 59 ∷ 52 ∷ 10 ∷ []) 9 ≡ outcome (refused OtherFields 2 4 1 2) (1 ∷ 2 ∷ [])
  -- with blanks a tab parts too; with a semicolon it is a fault
  -- "1 2\n3\t4\n"
  pub tab_as_blank : table_of (49 ∷ 32 ∷ 50 ∷ 10 ∷ 51 ∷ 9 ∷ 52 ∷ 10 ∷ []) 9 ≡ outcome (values 2 2) (1 ∷ 2 ∷ 3 ∷ 4 ∷ [])
  -- "1;2\n3;\t4\n"
  pub tab_fault : table_of (49 ∷ 59 ∷ 50 ∷ 10 ∷ 51 ∷ 59 ∷ 9 ∷ 52 ∷ 10 ∷ []) 9 ≡ outcome (refused Unreadable 2 3 9 0) (1 ∷ 2 ∷ 3 ∷ [])
  -- blanks around a field
  -- " 187 ; 20 \n"
  pub padding : table_of (32 ∷ 49 ∷ 56 ∷ 55 ∷ 32 ∷ 59 ∷ 32 ∷ 50 ∷ 48 ∷ 32 ∷ 10 ∷ []) 9 ≡ outcome (values 2 1) (187 ∷ 20 ∷ [])
  -- a line of names has no digit; names are only counted
  -- "Meal;Clothing\n1;2\n"
  pub names : table_of (77 ∷ 101 ∷ 97 ∷ 108 ∷ 59 ∷ 67 ∷ 108 ∷ 111 ∷ 116 ∷ 104 ∷ 105 ∷ 110 ∷ 103 ∷ 10 ∷ 49 ∷ 59 ∷ 50 ∷ 10 ∷ []) 9 ≡ outcome (values 2 1) (1 ∷ 2 ∷ [])
  -- "Meal allowance;+.,\n1;2\n"
  pub names_any : table_of (77 ∷ 101 ∷ 97 ∷ 108 ∷ 32 ∷ 97 ∷ 108 ∷ 108 ∷ 111 ∷ 119 ∷ 97 ∷ 110 ∷ 99 ∷ 101 ∷ 59 ∷ 43 ∷ 46 ∷ 44 ∷ 10 ∷ 49 ∷ 59 ∷ 50 ∷ 10 ∷ []) 9 ≡ outcome (values 2 1) (1 ∷ 2 ∷ [])
  -- "Meal Clothing\n1 2\n"
  pub names_words : table_of (77 ∷ 101 ∷ 97 ∷ 108 ∷ 32 ∷ 67 ∷ 108 ∷ 111 ∷ 116 ∷ 104 ∷ 105 ∷ 110 ∷ 103 ∷ 10 ∷ 49 ∷ 32 ∷ 50 ∷ 10 ∷ []) 9 ≡ outcome (values 2 1) (1 ∷ 2 ∷ [])
  -- "Col1;Col2\n1;2\n"
  pub name_digit : table_of (67 ∷ 111 ∷ 108 ∷ 49 ∷ 59 ∷ 67 ∷ 111 ∷ 108 ∷ 50 ∷ 10 ∷ 49 ∷ 59 ∷ 50 ∷ 10 ∷ []) 9 ≡ outcome (refused Unreadable 1 1 67 0) []
  -- "0;0\n", "9\n"
  pub zeros_first : table_of (48 ∷ 59 ∷ 48 ∷ 10 ∷ []) 9 ≡ outcome (values 2 1) (0 ∷ 0 ∷ [])
  pub nine_first : table_of (57 ∷ 10 ∷ []) 9 ≡ outcome (values 1 1) (9 ∷ [])
  -- "Meal;Clothing\n"
  pub names_only : table_of (77 ∷ 101 ∷ 97 ∷ 108 ∷ 59 ∷ 67 ∷ 108 ∷ 111 ∷ 116 ∷ 104 ∷ 105 ∷ 110 ∷ 103 ∷ 10 ∷ []) 9 ≡ outcome (refused OutOfRange 2 1 0 1) []
  -- "1;2\nMeal;Clothing\n"
  pub names_later : table_of (49 ∷ 59 ∷ 50 ∷ 10 ∷ 77 ∷ 101 ∷ 97 ∷ 108 ∷ 59 ∷ 67 ∷ 108 ∷ 111 ∷ 116 ∷ 104 ∷ 105 ∷ 110 ∷ 103 ∷ 10 ∷ []) 9 ≡ outcome (refused Unreadable 2 1 77 0) (1 ∷ 2 ∷ [])
  -- a mark, and carriage returns before newlines; lines and columns are those after the mark
  -- "\xEF\xBB\xBF187;20\r\n5;x\r\n"
  pub mark : table_of (239 ∷ 187 ∷ 191 ∷ 49 ∷ 56 ∷ 55 ∷ 59 ∷ 50 ∷ 48 ∷ 13 ∷ 10 ∷ 53 ∷ 59 ∷ 120 ∷ 13 ∷ 10 ∷ []) 9 ≡ outcome (refused Unreadable 2 3 120 0) (187 ∷ 20 ∷ 5 ∷ [])
  -- a carriage return elsewhere
  -- "1;2\r\r\n"
  pub return_inside : table_of (49 ∷ 59 ∷ 50 ∷ 13 ∷ 13 ∷ 10 ∷ []) 9 ≡ outcome (refused Unreadable 1 4 13 0) (1 ∷ [])
  -- cut off, before anything else
  -- "1;2\n3;4"
  pub cut : table_of (49 ∷ 59 ∷ 50 ∷ 10 ∷ 51 ∷ 59 ∷ 52 ∷ []) 9 ≡ outcome (refused CutOff 2 4 0 0) []
  -- "1;2\r"
  pub cut_return : table_of (49 ∷ 59 ∷ 50 ∷ 13 ∷ []) 9 ≡ outcome (refused CutOff 1 5 0 0) []
  -- "x;x\n1;2;3"
  pub cut_wrong : table_of (120 ∷ 59 ∷ 120 ∷ 10 ∷ 49 ∷ 59 ∷ 50 ∷ 59 ∷ 51 ∷ []) 0 ≡ outcome (refused CutOff 2 6 0 0) []
  -- no lines, no amounts
  -- ""
  pub none : table_of [] 9 ≡ outcome (refused OutOfRange 1 1 0 1) []
  -- "\xEF\xBB\xBF"
  pub mark_alone : table_of (239 ∷ 187 ∷ 191 ∷ []) 9 ≡ outcome (refused OutOfRange 1 1 0 1) []
  -- "\n1\n"
  pub empty_first : table_of (10 ∷ 49 ∷ 10 ∷ []) 9 ≡ outcome (refused OutOfRange 1 1 0 16) []
  -- "  \n1\n"
  pub blank_first : table_of (32 ∷ 32 ∷ 10 ∷ 49 ∷ 10 ∷ []) 9 ≡ outcome (refused OutOfRange 1 3 0 16) []
  -- 16 columns, and 17
  -- "1 1 1 1 1 1 1 1 1 1 1 1 1 1 1 1\n"
  pub sixteen : table_of (49 ∷ 32 ∷ 49 ∷ 32 ∷ 49 ∷ 32 ∷ 49 ∷ 32 ∷ 49 ∷ 32 ∷ 49 ∷ 32 ∷ 49 ∷ 32 ∷ 49 ∷ 32 ∷ 49 ∷ 32 ∷ 49 ∷ 32 ∷ 49 ∷ 32 ∷ 49 ∷ 32 ∷ 49 ∷ 32 ∷ 49 ∷ 32 ∷ 49 ∷ 32 ∷ 49 ∷ 10 ∷ []) 16 ≡ outcome (values 16 1) (1 ∷ 1 ∷ 1 ∷ 1 ∷ 1 ∷ 1 ∷ 1 ∷ 1 ∷ 1 ∷ 1 ∷ 1 ∷ 1 ∷ 1 ∷ 1 ∷ 1 ∷ 1 ∷ [])
  -- "1 1 1 1 1 1 1 1 1 1 1 1 1 1 1 1 1\n"
  pub seventeen : table_of (49 ∷ 32 ∷ 49 ∷ 32 ∷ 49 ∷ 32 ∷ 49 ∷ 32 ∷ 49 ∷ 32 ∷ 49 ∷ 32 ∷ 49 ∷ 32 ∷ 49 ∷ 32 ∷ 49 ∷ 32 ∷ 49 ∷ 32 ∷ 49 ∷ 32 ∷ 49 ∷ 32 ∷ 49 ∷ 32 ∷ 49 ∷ 32 ∷ 49 ∷ 32 ∷ 49 ∷ 32 ∷ 49 ∷ 10 ∷ []) 99 ≡ outcome (refused OutOfRange 1 34 17 16) []
  -- "a,a,a,a,a,a,a,a,a,a,a,a,a,a,a,a,a\n"
  pub seventeen_names : table_of (97 ∷ 44 ∷ 97 ∷ 44 ∷ 97 ∷ 44 ∷ 97 ∷ 44 ∷ 97 ∷ 44 ∷ 97 ∷ 44 ∷ 97 ∷ 44 ∷ 97 ∷ 44 ∷ 97 ∷ 44 ∷ 97 ∷ 44 ∷ 97 ∷ 44 ∷ 97 ∷ 44 ∷ 97 ∷ 44 ∷ 97 ∷ 44 ∷ 97 ∷ 44 ∷ 97 ∷ 44 ∷ 97 ∷ 10 ∷ []) 99 ≡ outcome (refused OutOfRange 1 34 17 16) []
  -- another number of fields than the first line has, told at the line's end
  -- "1;2\n3\n"
  pub fewer : table_of (49 ∷ 59 ∷ 50 ∷ 10 ∷ 51 ∷ 10 ∷ []) 9 ≡ outcome (refused OtherFields 2 2 1 2) (1 ∷ 2 ∷ [])
  -- "1;2\n3;4;5\r\n"
  pub more : table_of (49 ∷ 59 ∷ 50 ∷ 10 ∷ 51 ∷ 59 ∷ 52 ∷ 59 ∷ 53 ∷ 13 ∷ 10 ∷ []) 9 ≡ outcome (refused OtherFields 2 6 3 2) (1 ∷ 2 ∷ [])
  -- "1;2\n\n"
  pub empty_line : table_of (49 ∷ 59 ∷ 50 ∷ 10 ∷ 10 ∷ []) 9 ≡ outcome (refused OtherFields 2 1 1 2) (1 ∷ 2 ∷ [])
  -- "1\n\n"
  pub empty_words : table_of (49 ∷ 10 ∷ 10 ∷ []) 9 ≡ outcome (refused OtherFields 2 1 0 1) (1 ∷ [])
  -- "a;b;c\n1;2\n"
  pub fewer_than_names : table_of (97 ∷ 59 ∷ 98 ∷ 59 ∷ 99 ∷ 10 ∷ 49 ∷ 59 ∷ 50 ∷ 10 ∷ []) 9 ≡ outcome (refused OtherFields 2 4 2 3) []
  -- no room for a line, told at its first byte; what stands before is stored
  -- "1 2\n3 4\n"
  pub room : table_of (49 ∷ 32 ∷ 50 ∷ 10 ∷ 51 ∷ 32 ∷ 52 ∷ 10 ∷ []) 3 ≡ outcome (refused NoRoom 2 1 3 4) (1 ∷ 2 ∷ [])
  -- "7\n"
  pub no_room : table_of (55 ∷ 10 ∷ []) 0 ≡ outcome (refused NoRoom 1 1 0 1) []
  -- each fault of a byte
  -- "1;2\n3;x\n"
  pub letter : table_of (49 ∷ 59 ∷ 50 ∷ 10 ∷ 51 ∷ 59 ∷ 120 ∷ 10 ∷ []) 9 ≡ outcome (refused Unreadable 2 3 120 0) (1 ∷ 2 ∷ 3 ∷ [])
  -- "4294967295;4294967296\n"
  pub large : table_of (52 ∷ 50 ∷ 57 ∷ 52 ∷ 57 ∷ 54 ∷ 55 ∷ 50 ∷ 57 ∷ 53 ∷ 59 ∷ 52 ∷ 50 ∷ 57 ∷ 52 ∷ 57 ∷ 54 ∷ 55 ∷ 50 ∷ 57 ∷ 54 ∷ 10 ∷ []) 9 ≡ outcome (refused TooLarge 1 21 0 0) (4294967295 ∷ [])
  -- "000;0004294967295\n"
  pub zeros : table_of (48 ∷ 48 ∷ 48 ∷ 59 ∷ 48 ∷ 48 ∷ 48 ∷ 52 ∷ 50 ∷ 57 ∷ 52 ∷ 57 ∷ 54 ∷ 55 ∷ 50 ∷ 57 ∷ 53 ∷ 10 ∷ []) 9 ≡ outcome (values 2 1) (0 ∷ 4294967295 ∷ [])
  -- "1.5;2\n"
  pub point : table_of (49 ∷ 46 ∷ 53 ∷ 59 ∷ 50 ∷ 10 ∷ []) 9 ≡ outcome (refused Grouped 1 2 46 0) []
  -- "1;2,5\n"
  pub comma : table_of (49 ∷ 59 ∷ 50 ∷ 44 ∷ 53 ∷ 10 ∷ []) 9 ≡ outcome (refused Grouped 1 4 44 0) (1 ∷ [])
  -- "1 875;20\n"
  pub grouped : table_of (49 ∷ 32 ∷ 56 ∷ 55 ∷ 53 ∷ 59 ∷ 50 ∷ 48 ∷ 10 ∷ []) 9 ≡ outcome (refused Grouped 1 3 56 0) []
  -- "5, 1 875\n"
  pub grouped_comma : table_of (53 ∷ 44 ∷ 32 ∷ 49 ∷ 32 ∷ 56 ∷ 55 ∷ 53 ∷ 10 ∷ []) 9 ≡ outcome (refused Grouped 1 6 56 0) (5 ∷ [])
  -- "1;-2\n"
  pub minus : table_of (49 ∷ 59 ∷ 45 ∷ 50 ∷ 10 ∷ []) 9 ≡ outcome (refused Signed 1 3 45 0) (1 ∷ [])
  -- "+1\n"
  pub plus : table_of (43 ∷ 49 ∷ 10 ∷ []) 9 ≡ outcome (refused Signed 1 1 43 0) []
  -- no amount in a field, at the separator or the line's end that ends it
  -- "1;;2\n"
  pub empty_field : table_of (49 ∷ 59 ∷ 59 ∷ 50 ∷ 10 ∷ []) 9 ≡ outcome (refused NoAmount 1 3 0 0) (1 ∷ [])
  -- ";1\n"
  pub empty_front : table_of (59 ∷ 49 ∷ 10 ∷ []) 9 ≡ outcome (refused NoAmount 1 1 0 0) []
  -- "1;2\n3;  \r\n"
  pub empty_last : table_of (49 ∷ 59 ∷ 50 ∷ 10 ∷ 51 ∷ 59 ∷ 32 ∷ 32 ∷ 13 ∷ 10 ∷ []) 9 ≡ outcome (refused NoAmount 2 5 0 0) (1 ∷ 2 ∷ 3 ∷ [])
  -- two faults: the earlier line, in a line fields, then room, then bytes
  -- "x;1\n1\n"
  pub fields_first : table_of (120 ∷ 59 ∷ 49 ∷ 10 ∷ 49 ∷ 10 ∷ []) 9 ≡ outcome (refused Unreadable 1 1 120 0) []
  -- "1;2\nx;3;4\n"
  pub fields_before_byte : table_of (49 ∷ 59 ∷ 50 ∷ 10 ∷ 120 ∷ 59 ∷ 51 ∷ 59 ∷ 52 ∷ 10 ∷ []) 9 ≡ outcome (refused OtherFields 2 6 3 2) (1 ∷ 2 ∷ [])
  -- "1;2\n3\n"
  pub fields_before_room : table_of (49 ∷ 59 ∷ 50 ∷ 10 ∷ 51 ∷ 10 ∷ []) 2 ≡ outcome (refused OtherFields 2 2 1 2) (1 ∷ 2 ∷ [])
  -- "1;2\nx;3\n"
  pub room_before_byte : table_of (49 ∷ 59 ∷ 50 ∷ 10 ∷ 120 ∷ 59 ∷ 51 ∷ 10 ∷ []) 2 ≡ outcome (refused NoRoom 2 1 2 4) (1 ∷ 2 ∷ [])
  -- "1;x-\n"
  pub byte_order : table_of (49 ∷ 59 ∷ 120 ∷ 45 ∷ 10 ∷ []) 9 ≡ outcome (refused Unreadable 1 3 120 0) (1 ∷ [])
  -- 64 payslips, and 65
  pub most : (table_of (sevens 64) 64).answer ≡ values 1 64
  pub over_most : (table_of (sevens 65) 99).answer ≡ refused OutOfRange 65 1 65 64

pub samples_hold : Samples
unfolding ◌<?◌ ◌=?◌ ◌≠?◌ ◌or◌ fault_of plain_kind word_kind free_kind field_kind grown begun before follow read_from read_text after_byte spot_of mark_length is_cut cut_text content_length same_unit digit_unit tally_of parting_of separators_in head_of row_found joined after_row rows_end rows_from headed table_lines table_in
samples_hold =
    record {
      tabs = refl;
      semicolons = refl;
      commas = refl;
      blanks = refl;
      tab_first = refl;
      semicolon_first = refl;
      second_line = refl;
      tab_as_blank = refl;
      tab_fault = refl;
      padding = refl;
      names = refl;
      names_any = refl;
      names_words = refl;
      name_digit = refl;
      zeros_first = refl;
      nine_first = refl;
      names_only = refl;
      names_later = refl;
      mark = refl;
      return_inside = refl;
      cut = refl;
      cut_return = refl;
      cut_wrong = refl;
      none = refl;
      mark_alone = refl;
      empty_first = refl;
      blank_first = refl;
      sixteen = refl;
      seventeen = refl;
      seventeen_names = refl;
      fewer = refl;
      more = refl;
      empty_line = refl;
      empty_words = refl;
      fewer_than_names = refl;
      room = refl;
      no_room = refl;
      letter = refl;
      large = refl;
      zeros = refl;
      point = refl;
      comma = refl;
      grouped = refl;
      grouped_comma = refl;
      minus = refl;
      plus = refl;
      empty_field = refl;
      empty_front = refl;
      empty_last = refl;
      fields_first = refl;
      fields_before_byte = refl;
      fields_before_room = refl;
      room_before_byte = refl;
      byte_order = refl;
      most = refl;
      over_most = refl;
    }
