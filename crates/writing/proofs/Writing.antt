-- Each part goes after all that was put before: the header's four fields, the steps, the outputs; the buffer is always those bits filled up, and at the end they are the file's.
use mathlib.Core.Path.{◌≡◌, sym, ap, ap₂, subst, ◌∙◌}
use mathlib.Core.Bool.{Bool}
use mathlib.Core.List.{List, [], ◌++◌, append_assoc, append-nil}
use Prim.Native.Nat.{ℕ, ◌+◌, ◌-◌, ◌*◌, ◌/◌, ◌^◌, ◌≤◌, ◌<◌}
use native.Mathlib.Omega.{arith}
use lib.ListN.{length, get_or, take, length-append}
use lib.Seq.{length-take-le, take-length}
use Rattle.chain.specs.Written.{over}
use Rattle.chain.specs.Chain.{pairs, flat}
use Rattle.chain.proofs.Rules.{then_fine, refuse_if_fine, not_lt}
use Rattle.chain.proofs.Pairs.{length_pairs, take-flat}
use Rattle.bits.specs.Bits.{bits, fields, bytes_bits, pack, bytes_for}
use Rattle.bits.specs.Inner.{filed, FieldStored}
use Rattle.bits.proofs.Values.{length-bits}
use Rattle.bits.proofs.Fields.{length_fields}
use Rattle.bits.proofs.Filed.{put_next, filed_more}
use Rattle.fields.specs.Inner.{Clean, FrontFill}
use Rattle.layout.specs.declared.Layout.{Layout}
use Rattle.layout.specs.declared.Extent.{Extent}
use Rattle.layout.specs.File.{header_bits, header_size, width, widest, file_bits, file_of, bit_count, byte_count, write_rule}
use Rattle.layout.specs.Inner.{Sized}
use Rattle.layout.proofs.Lengths.{width_low, width_some, count_parts, count_fits, length_header, length-file_bits}
use Rattle.layout.proofs.Held.{HeldChain, held_parts}
use Rattle.layout.proofs.Numbers.{operands_small, outputs_small}
use Rattle.writing.specs.Inner.{HeaderFill, ToWrite}

-- the four fields of the header
module _ (L : Layout) (p q n : ℕ) (old m₁ m₂ m₃ m₄ : List ℕ) (a₁ a₂ a₃ a₄ : ℕ) where
  pub header_stored : FieldStored old 0 4 (bits 4 L.edition) m₁ a₁ → FieldStored m₁ a₁ 4 (bits 4 (p - 1)) m₂ a₂
      → FieldStored m₂ a₂ 6 (bits 6 (q - 1)) m₃ a₃ → FieldStored m₃ a₃ L.bits (bits L.bits n) m₄ a₄
      → FieldStored old 0 (header_size L) (header_bits L p q n) m₄ a₄
  header_stored s t u v =
      let b₁ : List Bool = bits 4 L.edition in
      let b₂ : List Bool = b₁ ++ bits 4 (p - 1) in
      let b₃ : List Bool = b₂ ++ bits 6 (q - 1) in
      let l₁ : length b₁ ≡ a₁ = omega (arith, length-bits 4 L.edition, s.moved) in
      let l₂ : length b₂ ≡ a₂ = omega (arith, length-append b₁ (bits 4 (p - 1)), length-bits 4 (p - 1), t.moved) in
      let l₃ : length b₃ ≡ a₃ = omega (arith, length-append b₂ (bits 6 (q - 1)), length-bits 6 (q - 1), u.moved) in
      let f₂ = put_next b₁ (bits 4 (p - 1)) old m₁ m₂ a₁ 4 a₂ l₁ s.is t in
      let f₃ = put_next b₂ (bits 6 (q - 1)) old m₂ m₃ a₂ 6 a₃ l₂ f₂ u in
      record {
        is = put_next b₃ (bits L.bits n) old m₃ m₄ a₃ L.bits a₄ l₃ f₃ v;
        moved = omega (arith, s.moved, t.moved, u.moved, v.moved);
      }

-- a buffer is clean after what was written
filed_clean : (b : List Bool) (old m : List ℕ) (at : ℕ) → length b ≡ at → m ≡ filed b old → Clean m at
filed_clean b old m at e is =
    ap (λ (r : List Bool). filed r m) (sym (append-nil (take at (bytes_bits m))))
    ∙ subst (λ (r : List ℕ). filed (take at (bytes_bits r) ++ []) r ≡ r) (sym is) (filed_more b [] old at e ∙ ap (λ (r : List Bool). filed r old) (append-nil b))

-- what acceptance means
pub record Writable (L : Layout) (p : ℕ) (l o : List ℕ) (lent : ℕ) : Type 0 where
  pub held : HeldChain L p (pairs l) o
  pub sized : Sized L p (length o) (length l / 2)
  pub room : byte_count L p (length o) (length l / 2) ≤ lent

pub writable : (L : Layout) (s : Extent) (l o : List ℕ) (lent : ℕ) → ToWrite L s l o lent → Writable L s.p l o lent
unfolding write_rule
writable L s l o lent ok =
    let p = s.p in
    let a = then_fine _ _ ok.accepted in
    let h = held_parts L p (pairs l) o a.0 in
    record {
      held = h;
      sized = record { p_some = h.sizes.p_some; p_low = h.sizes.p_low; q_low = h.sizes.q_low; n_low = rw length_pairs at h.few };
      room =
          subst (λ (n : ℕ). byte_count L p (length o) n ≤ lent) (length_pairs l)
          (not_lt lent (byte_count L p (length o) (length (pairs l))) (refuse_if_fine _ 5 0 a.1));
    }

-- the parts after the header, n, q and the width w being those of the chain's shape
module _ (L : Layout) (extent : Extent) (l o old : List ℕ) (to : ToWrite L extent l o (length old)) where
  abbrev p : ℕ
  p = extent.p

  abbrev n : ℕ
  n = extent.n

  abbrev q : ℕ
  q = extent.q

  abbrev w : ℕ
  w = extent.width

  few : n ≡ length l / 2
  few = ap (λ (x : Extent). x.n) to.extent

  is_payslips : q ≡ length o
  is_payslips = ap (λ (x : Extent). x.q) to.extent

  is_width : w ≡ width p n
  is_width = ap (λ (x : Extent). x.width) to.extent ∙ ap (width p) (sym few)

  ok : Writable L p l o (length old)
  ok = writable L extent l o (length old) to

  sized : Sized L p q n
  sized = rw (is_payslips, few) ok.sized

  pub header_fill : HeaderFill L extent old
  header_fill =
      record {
        holds = record { sound = to.sound; sized = sized };
        q_some = omega (arith, is_payslips, ok.held.sizes.q_some);
        room = omega (arith, ok.room, to.sound.long);
      }

  narrow : w ≤ widest
  narrow = omega (arith, is_width, width_low L to.sound p q n sized)

  wide : 1 ≤ w
  wide = omega (arith, is_width, width_some p n sized.p_some)

  count : bit_count L p q n ≡ header_size L + 2 * n * w + q * w
  count = count_parts L p q n ∙ ap (λ (k : ℕ). header_size L + 2 * n * k + q * k) (sym is_width)

  low : bit_count L p q n < 2 ^ 32
  low = count_fits L to.sound p q n sized

  short : bit_count L p q n ≤ 8 * length old
  short = let room : byte_count L p q n ≤ length old = rw (is_payslips, few) ok.room in omega (arith, room)

  pub twice_fits : 2 * n < 2 ^ 64
  twice_fits = omega (arith, sized.n_low, to.sound.narrow)

  -- the steps that are written, and the numbers of both lists
  front : take (2 * n) l ≡ flat (pairs l)
  front = ap (λ (k : ℕ). take (2 * k) l) few ∙ take-flat l

  length_front : length (take (2 * n) l) * w ≡ 2 * n * w
  length_front = ap (λ (k : ℕ). k * w) (length-take-le (2 * n) l (omega (arith, few)))

  small : (x : ℕ) → x < 2 ^ width p (length (pairs l)) → x < 2 ^ w
  small x h = subst (λ (k : ℕ). x < 2 ^ k) (ap (width p) (length_pairs l ∙ sym few) ∙ sym is_width) h

  module _ (m : List ℕ) (a : ℕ) (s : FieldStored old 0 (header_size L) (header_bits L p q n) m a) (same : length m ≡ length old) where
    pub steps_room : FrontFill m a w (2 * n) l
    steps_room =
        record {
          there = omega (arith, few);
          fill =
              record {
                narrow = omega (arith, narrow);
                some = wide;
                within = omega (arith, length_front, count, short, s.moved);
                fits = omega (arith, length_front, count, low, s.moved);
                small = λ k. small (get_or (take (2 * n) l) k 0) (rw front (operands_small p (pairs l) o ok.held.chain k));
                clean = filed_clean (header_bits L p q n) old m a (omega (arith, length_header L p q n, s.moved)) s.is;
              };
        }

    module _ (m' : List ℕ) (a' : ℕ) (t : FieldStored m a (2 * n * w) (fields w (take (2 * n) l)) m' a') (same' : length m' ≡ length m) where
      abbrev begun : List Bool
      begun = header_bits L p q n ++ fields w (take (2 * n) l)

      length-begun : length begun ≡ a'
      length-begun =
          omega (
            arith,
            length-append (header_bits L p q n) (fields w (take (2 * n) l)),
            length_header L p q n,
            length_fields w (take (2 * n) l),
            length_front,
            s.moved,
            t.moved,
          )

      filed_begun : m' ≡ filed begun old
      filed_begun =
          let begins : length (header_bits L p q n) ≡ a = omega (arith, length_header L p q n, s.moved) in
          put_next (header_bits L p q n) (fields w (take (2 * n) l)) old m m' a (2 * n * w) a' begins s.is t

      same_size : length o * w ≡ q * w
      same_size = ap (λ (k : ℕ). k * w) (sym is_payslips)

      pub outputs_room : FrontFill m' a' w (length o) o
      outputs_room =
          record {
            there = omega arith;
            fill =
                record {
                  narrow = omega (arith, narrow);
                  some = wide;
                  within = rw take-length (omega (arith, same_size, count, short, s.moved, t.moved));
                  fits = rw take-length (omega (arith, same_size, count, low, s.moved, t.moved));
                  small = λ k. small (get_or (take (length o) o) k 0) (rw take-length (outputs_small p (pairs l) o ok.held.chain k));
                  clean = filed_clean begun old m' a' length-begun filed_begun;
                };
          }

      pub file_stored : (m'' : List ℕ) (a'' : ℕ) → FieldStored m' a' (length o * w) (fields w (take (length o) o)) m'' a''
          → m'' ≡ over (file_of L p (pairs l) o) old
      unfolding file_of file_bits
      file_stored m'' a'' u =
          put_next begun (fields w (take (length o) o)) old m' m'' a' (length o * w) a'' length-begun filed_begun u
          ∙ ap (λ (b : List Bool). filed b old) whole
          ∙ ap (λ (k : ℕ). over (pack (bytes_for k) (file_bits L p (pairs l) o)) old) (length-file_bits L p (pairs l) o)
        where
          whole : begun ++ fields w (take (length o) o) ≡ file_bits L p (pairs l) o
          whole =
              append_assoc (header_bits L p q n) (fields w (take (2 * n) l)) (fields w (take (length o) o))
              ∙ ap₂ (λ (x y : List ℕ). header_bits L p q n ++ (fields w x ++ fields w y)) front (take-length o)
              ∙ ap₂ (λ (j k : ℕ). header_bits L p j n ++ (fields k (flat (pairs l)) ++ fields k o)) is_payslips is_width
              ∙ ap (λ (k : ℕ). header_bits L p (length o) k ++ (fields (width p k) (flat (pairs l)) ++ fields (width p k) o)) (few ∙ sym (length_pairs l))
