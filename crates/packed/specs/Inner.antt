-- Inner vocabulary: what the functions of this crate leave. Nobody has to believe it to believe an entry point's promise.
use Rattle.std.specs.Prelude.{cond, not, List, ℕ, ◌+◌, ◌*◌, ◌/◌, ◌%◌, get_or}
use Rattle.chain.specs.Tests.{◌<?◌, ◌=?◌}
use Rattle.chain.specs.Verdict.{Verdict, ◌then◌, refuse_if}
use Rattle.packed.specs.Field.{minus, is_sign}

-- 1 for a byte of two decimal digits, else 0
unfoldable pub digit_pair : ℕ → ℕ
digit_pair b = cond (b <? 160) (cond (b % 16 <? 10) 1 0) 0

-- how many of the four bytes from one on are such
abbrev pub pairs_at : List ℕ → ℕ → ℕ
pairs_at bytes at =
    digit_pair (get_or bytes at 0) + digit_pair (get_or bytes (at + 1) 0) + digit_pair (get_or bytes (at + 2) 0) + digit_pair (get_or bytes (at + 3) 0)

-- what a byte's two halves say as digits
abbrev pub said_by : ℕ → ℕ
said_by b = b / 16 * 10 + b % 16

-- what is found of the sign of field i, where its digits are good
unfoldable pub sign_rule : ℕ → ℕ → Verdict
sign_rule i s = refuse_if (not (is_sign s)) 18 i then refuse_if (s =? minus) 19 i
