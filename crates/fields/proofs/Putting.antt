-- The loop's invariant: the buffer as it will be is the buffer so far with the fields still to come put after it; each turn takes some fields off that list.
use mathlib.Core.Path.{◌≡◌, sym, ap, ap₂, ◌∙◌}
use mathlib.Core.Bool.{Bool}
use mathlib.Core.List.{List, [], ◌∷◌, ◌++◌, append_assoc, append-nil}
use Prim.Native.Nat.{ℕ, ◌+◌, ◌-◌, ◌*◌, ◌%◌, ◌^◌, ◌≤◌, ◌<◌}
use native.Mathlib.Nat.{zero-mul, one-mul, add-mul}
use native.Mathlib.Numerals.{add-one}
use native.Mathlib.Omega.{arith}
use lib.ListN.{length, take, drop, get_or, length-append, length-take, length-drop, take-append-drop, drop_of_length-le}
use lib.Seq.{length-take-le, drop-cons, drop-drop, get_or-take, get_or-drop}
use lib.Arith.{digits_lt}
use lib.Pow.{pow-add, shl_exact}
use Rattle.bits.specs.Bits.{bits, fields, bytes_bits}
use Rattle.bits.specs.Inner.{filed, FieldFill, FieldStored}
use Rattle.bits.proofs.Values.{bits_two}
use Rattle.bits.proofs.Fields.{length_fields, length-bytes_bits, fields-append}
use Rattle.bits.proofs.Filed.{filed_more}
use Rattle.fields.specs.Inner.{FieldsFill}

-- what the buffer will be, from what it is at position at with the numbers l to come
unfoldable pub filed_from : List ℕ → ℕ → ℕ → List ℕ → List ℕ
filed_from buf at w l = filed (take at (bytes_bits buf) ++ fields w l) buf

-- the first k numbers of the list are put
module _ (buf : List ℕ) (at w : ℕ) (l : List ℕ) (k : ℕ) (hk : k ≤ length l) (ok : FieldsFill buf at w l) (new : List ℕ) (next : ℕ)
    (s : FieldStored buf at (k * w) (fields w (take k l)) new next) where
  -- their room, and that of the others
  parts : length l * w ≡ k * w + length (drop k l) * w
  parts =
      let e : length l ≡ k + length (drop k l) = omega (arith, length-drop k l) in
      ap (λ (n : ℕ). n * w) e ∙ add-mul k (length (drop k l)) w

  begun : length (take at (bytes_bits buf) ++ fields w (take k l)) ≡ next
  begun =
      let a = length-take-le at (bytes_bits buf) (omega (arith, length-bytes_bits buf, ok.within)) in
      length-append (take at (bytes_bits buf)) (fields w (take k l))
      ∙ omega (arith, a, length_fields w (take k l) ∙ ap (λ (n : ℕ). n * w) (length-take-le k l hk), s.moved)

  more : (b : List Bool) → filed (take next (bytes_bits new) ++ b) new ≡ filed ((take at (bytes_bits buf) ++ fields w (take k l)) ++ b) buf
  more b = rw s.is (filed_more (take at (bytes_bits buf) ++ fields w (take k l)) b buf next begun)

  fill_rest : length new ≡ length buf → FieldsFill new next w (drop k l)
  fill_rest same =
      record {
        narrow = ok.narrow;
        some = ok.some;
        within = omega (arith, ok.within, s.moved, parts);
        fits = omega (arith, ok.fits, s.moved, parts);
        small = λ n. rw (get_or-drop k l n 0) (ok.small (k + n));
        clean =
            ap (λ (b : List Bool). filed b new) (sym (append-nil (take next (bytes_bits new)))) ∙ more []
            ∙ ap (λ (b : List Bool). filed b buf) (append-nil (take at (bytes_bits buf) ++ fields w (take k l))) ∙ sym s.is;
      }

  filed_rest : filed_from buf at w l ≡ filed_from new next w (drop k l)
  unfolding filed_from
  filed_rest =
      let a : List Bool = take at (bytes_bits buf) in
      let cut : fields w l ≡ fields w (take k l) ++ fields w (drop k l) =
      ap (fields w) (sym (take-append-drop k l)) ∙ fields-append w (take k l) (drop k l) in
      ap (λ (b : List Bool). filed (a ++ b) buf) cut
      ∙ sym (more (fields w (drop k l)) ∙ ap (λ (b : List Bool). filed b buf) (append_assoc a (fields w (take k l)) (fields w (drop k l))))

-- the numbers of l that are to come, n in all, from number j on
abbrev pub to_come : List ℕ → ℕ → ℕ → List ℕ
to_come l n j = drop j (take n l)

come_next : (l : List ℕ) (n j : ℕ) → n ≤ length l → j < n → to_come l n j ≡ get_or l j 0 ∷ to_come l n (j + 1)
come_next l n j hn h =
    drop-cons (take n l) j 0 (omega (arith, length-take-le n l hn))
    ∙ ap₂ (λ (a : ℕ) (k : ℕ). a ∷ drop k (take n l)) (get_or-take n l j 0 h) (sym (add-one j))

-- the invariant: j numbers are written, the cursor is at c and will be at goal, and the buffer will be whole
pub record Putting (whole : List ℕ) (goal w : ℕ) (l : List ℕ) (n : ℕ) (buf : List ℕ) (c j : ℕ) : Type 0 where
  pub some_left : j ≤ n
  pub place : c + (n - j) * w ≡ goal
  pub room : FieldsFill buf c w (to_come l n j)
  pub is : whole ≡ filed_from buf c w (to_come l n j)

module _ (w : ℕ) (l : List ℕ) (n : ℕ) (old : List ℕ) (at : ℕ) where
  pub put_end : (buf : List ℕ) (c j : ℕ) → Putting (filed_from old at w (take n l)) (at + n * w) w l n buf c j → n ≤ j
      → FieldStored old at (n * w) (fields w (take n l)) buf c
  unfolding filed_from fields
  put_end buf c j inv h =
      let none : to_come l n j ≡ [] = drop_of_length-le (take n l) {i = j} (omega (arith, length-take n l)) in
      let left : n - j ≡ 0 = omega arith in
      record {
        is =
            sym
            (inv.is ∙ ap (filed_from buf c w) none ∙ ap (λ (b : List Bool). filed b buf) (append-nil (take c (bytes_bits buf)))
            ∙ inv.room.clean);
        moved = omega (arith, inv.place, ap (λ (k : ℕ). k * w) left, zero-mul w);
      }

-- a turn
module _ (whole : List ℕ) (goal w : ℕ) (l : List ℕ) (n : ℕ) (buf : List ℕ) (c j : ℕ) (hn : n ≤ length l) (inv : Putting whole goal w l n buf c j) where
  length_come : length (to_come l n j) ≡ n - j
  length_come = length-drop j (take n l) ∙ ap (λ (k : ℕ). k - j) (length-take-le n l hn)

  -- k numbers have room
  room_some : (k : ℕ) → j + k ≤ n → (c + k * w ≤ 8 * length buf) × (c + k * w < 2 ^ 64)
  room_some k h =
      let left : length (to_come l n j) ≡ k + (n - (j + k)) = omega (arith, length_come) in
      let more = ap (λ (m : ℕ). m * w) left ∙ add-mul k (n - (j + k)) w in
      (omega (arith, inv.room.within, more), omega (arith, inv.room.fits, more))

  -- k numbers are put
  put_some : (k : ℕ) → j + k ≤ n → (new : List ℕ) (next : ℕ) → FieldStored buf c (k * w) (fields w (take k (to_come l n j))) new next
      → length new ≡ length buf → Putting whole goal w l n new next (j + k)
  put_some k h new next s same =
      let hk : k ≤ length (to_come l n j) = omega (arith, length_come) in
      let left : n - j ≡ k + (n - (j + k)) = omega arith in
      let rest = drop-drop k j (take n l) in
      record {
        some_left = h;
        place = omega (arith, inv.place, s.moved, ap (λ (m : ℕ). m * w) left, add-mul k (n - (j + k)) w);
        room = rw rest at (fill_rest buf c w (to_come l n j) k hk inv.room new next s same);
        is = inv.is ∙ filed_rest buf c w (to_come l n j) k hk inv.room new next s ∙ ap (filed_from new next w) rest;
      }

  -- of one number
  module _ (v : ℕ) (h : j < n) (ev : v ≡ get_or l j 0) where
    come_one : to_come l n j ≡ v ∷ to_come l n (j + 1)
    come_one = come_next l n j hn h ∙ ap (λ (a : ℕ). a ∷ to_come l n (j + 1)) (sym ev)

    pub one_on : (new : List ℕ) (next : ℕ) → FieldStored buf c w (bits w v) new next → length new ≡ length buf → Putting whole goal w l n new next (j + 1)
    unfolding fields
    one_on new next s same =
        let e : bits w v ≡ fields w (take 1 (to_come l n j)) = sym (ap (λ (r : List ℕ). fields w (take 1 r)) come_one ∙ append-nil (bits w v)) in
        put_some 1 (omega arith) new next (rw (one-mul w, ← e) s) same

  -- of two numbers at a time
  module _ (v u : ℕ) (h : 2 ≤ n - j) (ev : v ≡ get_or l j 0) (eu : u ≡ get_or l (j + 1) 0) where
    come_two : to_come l n j ≡ v ∷ u ∷ to_come l n (j + 1 + 1)
    come_two =
        come_one v (omega arith) ev
        ∙ ap (λ (r : List ℕ). v ∷ r) (come_next l n (j + 1) hn (omega arith) ∙ ap (λ (a : ℕ). a ∷ to_come l n (j + 1 + 1)) (sym eu))

    small_first : v < 2 ^ w
    small_first = rw come_two at inv.room.small 0

    small_second : u < 2 ^ w
    small_second = rw come_two at inv.room.small 1

    -- as the code has them
    abbrev both : ℕ
    both = v * 2 ^ w % 2 ^ 64 + u

    both_is : both ≡ v * 2 ^ w + u
    both_is = ap (λ (x : ℕ). x + u) (shl_exact w w 64 small_first (omega (arith, inv.room.narrow)))

    both_small : both < 2 ^ (2 * w)
    both_small =
        let e : w + w ≡ 2 * w = omega arith in
        rw (both_is, ← e, pow-add 2 w w) (digits_lt small_first small_second)

    pub two_room : FieldFill buf c (2 * w) both
    two_room =
        let r = room_some 2 (omega arith) in
        record {
          narrow = omega (arith, inv.room.narrow);
          within = r.0;
          fits = r.1;
          some = omega (arith, inv.room.some);
          small = both_small;
        }

    pub two_on : (new : List ℕ) (next : ℕ) → FieldStored buf c (2 * w) (bits (2 * w) both) new next → length new ≡ length buf
        → Putting whole goal w l n new next (j + 2)
    unfolding fields
    two_on new next s same =
        let e : bits (2 * w) both ≡ fields w (take 2 (to_come l n j)) =
        ap (bits (2 * w)) both_is ∙ bits_two w v u small_second ∙ ap (λ (r : List Bool). bits w v ++ r) (sym (append-nil (bits w u)))
        ∙ sym (ap (λ (r : List ℕ). fields w (take 2 r)) come_two) in
        put_some 2 (omega arith) new next (rw (← e) s) same
