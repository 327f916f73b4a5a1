-- Samples of texts of numbers, computed. What each text is stands in its row's comment, as in C.
use Rattle.std.specs.Prelude.{◌≡◌, refl, List, [], ◌∷◌, ℕ, map, Err}
use Rattle.chain.specs.Tests.{◌<?◌, ◌=?◌, ◌≠?◌, ◌or◌}
use Rattle.places.specs.declared.Fault.TheVariants.{OutOfRange, NoRoom, Unreadable, TooLarge, CutOff, OtherFields, Grouped, Signed, NoAmount}
use Rattle.places.specs.Faults.{number_of}
use Rattle.places.specs.Places.{after_byte, spot_of, mark_length, is_cut, cut_text, refused_at, values, refused, number_by, number_told, words_told}
use Rattle.text.specs.Text.{fault_of, plain_kind, word_kind, free_kind, grown, begun, before, follow, read_from, read_text, outcome, numbers_in, numbers_of}

-- "12\n3x4\n"
abbrev letter : List ℕ
letter = 49 ∷ 50 ∷ 10 ∷ 51 ∷ 120 ∷ 52 ∷ 10 ∷ []

pub record Samples : Type 0 where
  -- no bytes, and a mark alone
  -- ""
  pub none : numbers_of [] 0 ≡ outcome (values 0 0) []
  -- "\xEF\xBB\xBF"
  pub mark_alone : numbers_of (239 ∷ 187 ∷ 191 ∷ []) 0 ≡ outcome (values 0 0) []
  -- any blanks part; the mark is no part of the text; leading zeros are fine
  -- "2 1\n3 2\n"
  pub sheet : numbers_of (50 ∷ 32 ∷ 49 ∷ 10 ∷ 51 ∷ 32 ∷ 50 ∷ 10 ∷ []) 4 ≡ outcome (values 4 0) (2 ∷ 1 ∷ 3 ∷ 2 ∷ [])
  -- "\xEF\xBB\xBF\t4294967295\r\n007\r\n"
  pub most : numbers_of (239 ∷ 187 ∷ 191 ∷ 9 ∷ 52 ∷ 50 ∷ 57 ∷ 52 ∷ 57 ∷ 54 ∷ 55 ∷ 50 ∷ 57 ∷ 53 ∷ 13 ∷ 10 ∷ 48 ∷ 48 ∷ 55 ∷ 13 ∷ 10 ∷ []) 3 ≡ outcome (values 2 0) (4294967295 ∷ 7 ∷ [])
  -- "\xEF\xBB2\n"
  pub half_mark : numbers_of (239 ∷ 187 ∷ 50 ∷ 10 ∷ []) 3 ≡ outcome (refused Unreadable 1 1 239 0) []
  -- a text without its closing newline is turned down before anything in it
  -- "1 2\n3"
  pub cut : numbers_of (49 ∷ 32 ∷ 50 ∷ 10 ∷ 51 ∷ []) 9 ≡ outcome (refused CutOff 2 2 0 0) []
  -- "1 x"
  pub cut_first : numbers_of (49 ∷ 32 ∷ 120 ∷ []) 9 ≡ outcome (refused CutOff 1 4 0 0) []
  -- "\xEF\xBB\xBF7"
  pub mark_cut : numbers_of (239 ∷ 187 ∷ 191 ∷ 55 ∷ []) 9 ≡ outcome (refused CutOff 1 2 0 0) []
  -- each fault of a byte, at its line and column; numbers whole before it stay
  -- "1 4294967296\n"
  pub over : numbers_of (49 ∷ 32 ∷ 52 ∷ 50 ∷ 57 ∷ 52 ∷ 57 ∷ 54 ∷ 55 ∷ 50 ∷ 57 ∷ 54 ∷ 10 ∷ []) 2 ≡ outcome (refused TooLarge 1 12 0 0) (1 ∷ [])
  -- "12\n3x4\n"
  pub other : numbers_of (49 ∷ 50 ∷ 10 ∷ 51 ∷ 120 ∷ 52 ∷ 10 ∷ []) 9 ≡ outcome (refused Unreadable 2 2 120 0) (12 ∷ [])
  -- "1;2\n"
  pub semicolon : numbers_of (49 ∷ 59 ∷ 50 ∷ 10 ∷ []) 9 ≡ outcome (refused Unreadable 1 2 59 0) []
  -- "187.50\n"
  pub point : numbers_of (49 ∷ 56 ∷ 55 ∷ 46 ∷ 53 ∷ 48 ∷ 10 ∷ []) 9 ≡ outcome (refused Grouped 1 4 46 0) []
  -- "1,2\n"
  pub comma : numbers_of (49 ∷ 44 ∷ 50 ∷ 10 ∷ []) 9 ≡ outcome (refused Grouped 1 2 44 0) []
  -- "1'2\n"
  pub apostrophe : numbers_of (49 ∷ 39 ∷ 50 ∷ 10 ∷ []) 9 ≡ outcome (refused Grouped 1 2 39 0) []
  -- "1_2\n"
  pub underscore : numbers_of (49 ∷ 95 ∷ 50 ∷ 10 ∷ []) 9 ≡ outcome (refused Grouped 1 2 95 0) []
  -- "3 -4\n"
  pub minus : numbers_of (51 ∷ 32 ∷ 45 ∷ 52 ∷ 10 ∷ []) 9 ≡ outcome (refused Signed 1 3 45 0) (3 ∷ [])
  -- "+4\n"
  pub plus : numbers_of (43 ∷ 52 ∷ 10 ∷ []) 9 ≡ outcome (refused Signed 1 1 43 0) []
  -- no room, told at the first digit of the number
  -- "2 1\n3 2\n"
  pub short : numbers_of (50 ∷ 32 ∷ 49 ∷ 10 ∷ 51 ∷ 32 ∷ 50 ∷ 10 ∷ []) 3 ≡ outcome (refused NoRoom 2 3 3 4) (2 ∷ 1 ∷ 3 ∷ [])
  -- "7\n"
  pub no_cells : numbers_of (55 ∷ 10 ∷ []) 0 ≡ outcome (refused NoRoom 1 1 0 1) []
  -- the first fault counts
  -- "1 x 2\n"
  pub early : numbers_of (49 ∷ 32 ∷ 120 ∷ 32 ∷ 50 ∷ 10 ∷ []) 1 ≡ outcome (refused Unreadable 1 3 120 0) (1 ∷ [])
  -- "1 2 x\n"
  pub late : numbers_of (49 ∷ 32 ∷ 50 ∷ 32 ∷ 120 ∷ 10 ∷ []) 1 ≡ outcome (refused NoRoom 1 3 1 2) (1 ∷ [])
  -- how they are told
  pub told_values : words_told (values 4 0) ≡ 4 ∷ 0 ∷ 0 ∷ 0 ∷ 0 ∷ 0 ∷ 0 ∷ 0 ∷ []
  pub told_refused : words_told (refused NoRoom 2 3 7 8) ≡ 2 ∷ 3 ∷ 7 ∷ 8 ∷ 0 ∷ 0 ∷ 0 ∷ 0 ∷ []
  pub told_number : number_told (refused NoRoom 2 3 7 8) ≡ 5
  -- a number that stands for a fault is told as it is
  pub told_own : number_by (λ n. n) (Err (refused_at 4294967295 (record { line = 2; column = 3 }) 7 8)) ≡ 4294967295
  -- the faults' numbers
  pub told_faults : map number_of (OutOfRange ∷ NoRoom ∷ Unreadable ∷ TooLarge ∷ CutOff ∷ OtherFields ∷ Grouped ∷ Signed ∷ NoAmount ∷ [])
      ≡ 1 ∷ 5 ∷ 101 ∷ 102 ∷ 103 ∷ 104 ∷ 105 ∷ 106 ∷ 107 ∷ []
  -- places: in the second line, at the start, at a newline, past the end
  pub spot : spot_of letter 5 ≡ record { line = 2; column = 2 }
  pub first : spot_of letter 1 ≡ record { line = 1; column = 1 }
  pub ended : spot_of letter 3 ≡ record { line = 1; column = 3 }
  pub past : spot_of letter 8 ≡ record { line = 3; column = 1 }

pub samples_hold : Samples
unfolding ◌<?◌ ◌=?◌ ◌≠?◌ ◌or◌ fault_of plain_kind word_kind free_kind grown begun before follow read_from read_text after_byte spot_of mark_length is_cut cut_text numbers_in
samples_hold =
    record {
      none = refl;
      mark_alone = refl;
      sheet = refl;
      most = refl;
      half_mark = refl;
      cut = refl;
      cut_first = refl;
      mark_cut = refl;
      over = refl;
      other = refl;
      semicolon = refl;
      point = refl;
      comma = refl;
      apostrophe = refl;
      underscore = refl;
      minus = refl;
      plus = refl;
      short = refl;
      no_cells = refl;
      early = refl;
      late = refl;
      told_values = refl;
      told_refused = refl;
      told_number = refl;
      told_own = refl;
      told_faults = refl;
      spot = refl;
      first = refl;
      ended = refl;
      past = refl;
    }
