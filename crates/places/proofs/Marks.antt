-- The byte order mark: a text shorter than it has none, and it lies within its text.
use mathlib.Core.Path.{◌≡◌}
use mathlib.Core.Bool.{Bool, true, false, cond}
use mathlib.Core.List.{List}
use Prim.Native.Nat.{ℕ, ◌-◌, ◌≤◌, ◌<◌}
use native.Mathlib.Decide.{dec_lt}
use native.Mathlib.Omega.{arith}
use lib.ListN.{length, get_or, take, drop, length-drop, get_or-eq_default}
use lib.Seq.{take_all}
use Rattle.chain.specs.Tests.{◌≠?◌, ◌or◌}
use Rattle.chain.proofs.Rules.{ne_yes, or_right}
use Rattle.places.specs.Places.{mark_length, body_of}

module _ (text : List ℕ) where
  pub mark_short : length text < 3 → 0 ≡ mark_length text
  unfolding mark_length
  mark_short h =
      let none : get_or text 2 0 ≡ 0 = get_or-eq_default text 0 (omega arith) in
      let no : get_or text 2 0 ≡ 191 → ⊥ = λ e. omega arith in
      rw (or_right (get_or text 0 0 ≠? 239) _ (or_right (get_or text 1 0 ≠? 187) _ (ne_yes _ _ no)))

  most : mark_length text ≤ 3
  unfolding mark_length
  most = by_test (get_or text 0 0 ≠? 239 or get_or text 1 0 ≠? 187 or get_or text 2 0 ≠? 191)
    where
      by_test : (t : Bool) → cond t 0 3 ≤ 3
      by_test true = omega arith
      by_test false = omega arith

  pub mark_within : mark_length text ≤ length text
  mark_within = by_size (dec_lt (length text) 3)
    where
      by_size : Dec (length text < 3) → mark_length text ≤ length text
      by_size (yes h) = omega (arith, mark_short h)
      by_size (no h) = omega (arith, most)

  -- where the mark ends, as the code has it, and the text from there on
  pub start_within : (start : ℕ) → start ≡ mark_length text → start ≤ length text
  start_within start e = omega (arith, mark_within)

  pub body_part : (start : ℕ) → start ≡ mark_length text → take (length text - start) (drop start text) ≡ body_of text
  body_part start e = rw e (take_all (length text - mark_length text) (drop (mark_length text) text) (omega (arith, length-drop (mark_length text) text)))
