-- What a text comes to is kept at each byte by that byte's effect: it leaves a number in the making, ends one, or stops the reading.
use mathlib.Core.Path.{◌≡◌, refl, sym, ap, ◌∙◌}
use mathlib.Core.Bool.{Bool, true, false, cond}
use mathlib.Core.List.{List, [], ◌∷◌}
use Prim.Native.Nat.{ℕ, zero, suc, ◌+◌, ◌*◌, ◌≤◌, ◌<◌}
use native.Mathlib.Numerals.{add-one}
use native.Mathlib.Omega.{arith}
use lib.ListN.{length, get_or, drop, set, length-set, drop_of_length-le}
use lib.Seq.{drop-cons}
use borrow.Author.Tests.{ltb-true}
use Rattle.chain.specs.Tests.{◌<?◌}
use Rattle.chain.specs.Chain.{most_amount}
use Rattle.chain.specs.Written.{laid}
use Rattle.chain.proofs.Written.{laid_nil, laid_one}
use Rattle.std.specs.Prelude.{Ok, Err}
use Rattle.places.specs.declared.Fault.{Fault}
use Rattle.places.specs.declared.Fault.TheVariants.{NoRoom, TooLarge}
use Rattle.text.specs.declared.Parting.{Parting}
use Rattle.text.specs.declared.Kind.{Kind}
use Rattle.text.specs.declared.Kind.TheVariants.{Blank, Padding, Separator, Digit, Other}
use Rattle.text.specs.declared.Making.{Making}
use Rattle.text.specs.declared.Making.TheVariants.{Nothing, Number, Padded}
use Rattle.text.specs.declared.Effect.{Effect}
use Rattle.text.specs.declared.Effect.TheVariants.{Becomes, Ends, Faulty}
use Rattle.text.specs.Text.{kind_of, end_kind, kinds_of, grown, begun, effect_of, flaw, Found, found, before, follow, read_from, read_text}
use Rattle.text.specs.Inner.{kind_at, FoundTo}

-- the kinds of a text are those of its bytes, and one more for its end
kinds_length : (by : Parting) (text : List ℕ) → length (kinds_of by text) ≡ length text + 1
kinds_length by [] = omega arith
kinds_length by (b ∷ r) = omega (arith, kinds_length by r)

module _ (by : Parting) (k : Kind) where
  pub kind_byte : (text : List ℕ) (i : ℕ) → i < length text → k ≡ kind_of by (get_or text i 0) → k ≡ kind_at by text i
  unfolding kind_at
  kind_byte [] i h e = absurd (omega arith)
  kind_byte (b ∷ r) zero h e = e
  kind_byte (b ∷ r) (suc i) h e = kind_byte r i (omega arith) e

  pub kind_end : (text : List ℕ) (i : ℕ) → length text ≤ i → k ≡ end_kind by → k ≡ kind_at by text i
  unfolding kind_at
  kind_end [] zero h e = e
  kind_end [] (suc i) h e = e
  kind_end (b ∷ r) zero h e = absurd (omega arith)
  kind_end (b ∷ r) (suc i) h e = kind_end r i (omega arith) e

-- there is a cell for the number in the making
abbrev pub Fits : ℕ → ℕ → Making → Type 0
Fits c n Nothing = Unit {0}
Fits c n (Number x) = c < n
Fits c n (Padded x) = c < n

-- and for what an effect makes of it
abbrev Sound : ℕ → ℕ → Effect → Type 0
Sound c n (Becomes m) = Fits c n m
Sound c n (Ends x) = c < n
Sound c n (Faulty fault seen wanted) = Unit {0}

begun_sound : (c n d : ℕ) → Sound c n (begun c n d)
unfolding begun ◌<?◌
begun_sound c n d = by_test (c <? n) (λ e. ltb-true c n e)
  where
    by_test : (t : Bool) → (t ≡ true → c < n) → Sound c n (cond t (Becomes (Number d)) (Faulty NoRoom n (n + 1)))
    by_test true h = h refl
    by_test false h = tt

grown_sound : (c n x d : ℕ) → c < n → Sound c n (grown x d)
unfolding grown
grown_sound c n x d h = by_test (most_amount <? 10 * x + d)
  where
    by_test : (t : Bool) → Sound c n (cond t (Faulty TooLarge 0 0) (Becomes (Number (10 * x + d))))
    by_test true = tt
    by_test false = h

sound : (c n : ℕ) (m : Making) (k : Kind) → Fits c n m → Sound c n (effect_of c n m k)
sound c n Nothing Blank f = tt
sound c n (Number x) Blank f = f
sound c n (Padded x) Blank f = f
sound c n Nothing Padding f = tt
sound c n (Number x) Padding f = f
sound c n (Padded x) Padding f = f
sound c n Nothing Separator f = tt
sound c n (Number x) Separator f = f
sound c n (Padded x) Separator f = f
sound c n Nothing (Digit d) f = begun_sound c n d
sound c n (Number x) (Digit d) f = grown_sound c n x d f
sound c n (Padded x) (Digit d) f = tt
sound c n m (Other fault b) f = tt

-- how a text is parted, and what it is; there is room for n numbers, over the cells from one on, and the cells as they were
module _ (by : Parting) (text : List ℕ) (from n : ℕ) (old : List ℕ) where
  -- what is left to read after i bytes
  abbrev pub left : ℕ → Making → ℕ → Found
  left c m i = read_from n c (i + 1) m (drop i (kinds_of by text))

  -- the reading so far: what is left gives the answer, and the numbers after those stored
  pub record Reads (c : ℕ) (m : Making) (i : ℕ) (cells : List ℕ) : Type 0 where
    pub long : length cells ≡ length old
    pub fits : Fits c n m
    pub answer : (read_text by text n).answer ≡ (left c m i).answer
    pub numbers : laid from (read_text by text n).numbers old ≡ laid (from + c) (left c m i).numbers cells

  pub reads_start : Reads 0 Nothing 0 old
  unfolding read_text
  reads_start = let e : from + 0 ≡ from = omega arith in record { long = refl; fits = tt; answer = refl; numbers = rw e }

  module _ (c : ℕ) (m : Making) (i : ℕ) (cells : List ℕ) (r : Reads c m i cells) where
    -- the end
    pub reads_end : length text < i → FoundTo (read_text by text n) from old (Ok c) cells
    unfolding read_from
    reads_end h =
        let past : length (kinds_of by text) ≤ i = omega (arith, kinds_length by text) in
        let s : left c m i ≡ found (Ok c) [] = rw (drop_of_length-le (kinds_of by text) past) in
        record {
          answered = sym (r.answer ∙ ap (λ (f : Found). f.answer) s);
          stored = sym (r.numbers ∙ ap (λ (f : Found). laid (from + c) f.numbers cells) s ∙ laid_nil (from + c) cells);
        }

    -- the next byte, and its effect as the code has it
    module _ (h : i ≤ length text) (k : Kind) (e : Effect) (is : k ≡ kind_at by text i) (told : e ≡ effect_of c n m k) where
      next : left c m i ≡ follow (i + 1) e (λ m'. left c m' (i + 1)) (λ x. before x (left (c + 1) Nothing (i + 1)))
      unfolding read_from kind_at
      next =
          let s : drop i (kinds_of by text) ≡ k ∷ drop (suc i) (kinds_of by text) = rw is (drop-cons (kinds_of by text) i (end_kind by) (omega (arith, kinds_length by text))) in
          rw (s, read_from, told, add-one i, add-one c, add-one (suc i))

      holds : Sound c n e
      holds = rw told (sound c n m k r.fits)

      pub reads_room : (x : ℕ) → e ≡ Ends x → c < n
      reads_room x was = rw was at holds

      pub reads_becomes : (m' : Making) → e ≡ Becomes m' → Reads c m' (i + 1) cells
      unfolding follow
      reads_becomes m' was =
          let s : left c m i ≡ left c m' (i + 1) = next ∙ rw (was, follow) in
          record {
            long = r.long;
            fits = rw was at holds;
            answer = r.answer ∙ ap (λ (f : Found). f.answer) s;
            numbers = r.numbers ∙ ap (λ (f : Found). laid (from + c) f.numbers cells) s;
          }

      pub reads_ends : (x : ℕ) → e ≡ Ends x → from + n ≤ length old → Reads (c + 1) Nothing (i + 1) (set cells (from + c) x)
      unfolding follow before
      reads_ends x was room =
          let s : left c m i ≡ before x (left (c + 1) Nothing (i + 1)) = next ∙ rw (was, follow) in
          let low : c < n = reads_room x was in
          let at : from + (c + 1) ≡ from + c + 1 = omega arith in
          record {
            long = simp length-set r.long;
            fits = tt;
            answer = r.answer ∙ ap (λ (f : Found). f.answer) s;
            numbers =
                r.numbers ∙ ap (λ (f : Found). laid (from + c) f.numbers cells) s ∙ rw at (sym (laid_one (from + c) x _ cells (omega (arith, r.long))));
          }

      pub reads_stop : (fault : Fault) (seen wanted : ℕ) → e ≡ Faulty fault seen wanted → FoundTo (read_text by text n) from old (Err (flaw fault (i + 1) seen wanted)) cells
      unfolding follow
      reads_stop fault seen wanted was =
          let s : left c m i ≡ found (Err (flaw fault (i + 1) seen wanted)) [] = next ∙ rw (was, follow) in
          record {
            answered = sym (r.answer ∙ ap (λ (f : Found). f.answer) s);
            stored = sym (r.numbers ∙ ap (λ (f : Found). laid (from + c) f.numbers cells) s ∙ laid_nil (from + c) cells);
          }

      -- what the code holds after the byte
      module _ (cells' : List ℕ) (c' : ℕ) (m' : Making) where
        pub on_becomes : (m'' : Making) → e ≡ Becomes m'' → cells' ≡ cells → c' ≡ c → m' ≡ m'' → Reads c' m' (i + 1) cells'
        on_becomes m'' was a b d = rw (a, b, d) (reads_becomes m'' was)

        pub on_ends : (x : ℕ) → e ≡ Ends x → from + n ≤ length old → cells' ≡ set cells (from + c) x → c' ≡ c + 1 → m' ≡ Nothing → Reads c' m' (i + 1) cells'
        on_ends x was room a b d = rw (a, b, d) (reads_ends x was room)

-- a text that was read has as many numbers as it answers, and they are within the room for them
read_count : (n c i : ℕ) (m : Making) (ks : List Kind) (x : ℕ) → c ≤ n → Fits c n m → (read_from n c i m ks).answer ≡ Ok x
    → (x ≡ c + length (read_from n c i m ks).numbers) × (x ≤ n)
unfolding read_from follow before
read_count n c i m [] x h f e = let z : c ≡ x = cc in (omega arith, omega arith)
read_count n c i m (k ∷ r) x h f e = by_effect (effect_of c n m k) (sound c n m k f) (λ c' m'. read_count n c' (suc i) m' r x) e
  where
    by_effect : (t : Effect) → Sound c n t
        → ((c' : ℕ) (m' : Making) → c' ≤ n → Fits c' n m' → (read_from n c' (suc i) m' r).answer ≡ Ok x → (x ≡ c' + length (read_from n c' (suc i) m' r).numbers) × (x ≤ n))
        → (follow i t (λ m'. read_from n c (suc i) m' r) (λ y. before y (read_from n (suc c) (suc i) Nothing r))).answer ≡ Ok x
        → (x ≡ c + length (follow i t (λ m'. read_from n c (suc i) m' r) (λ y. before y (read_from n (suc c) (suc i) Nothing r))).numbers) × (x ≤ n)
    by_effect (Becomes m') s ih e = ih c m' h s e
    by_effect (Ends y) s ih e = let z = ih (suc c) Nothing s tt e in (omega (arith, z.0), z.1)
    by_effect (Faulty fault seen wanted) s ih e = let z : ◌≡◌ {A = ℕ} 0 1 = cc in absurd (omega arith)

pub text_count : (by : Parting) (text : List ℕ) (n x : ℕ) → (read_text by text n).answer ≡ Ok x → (x ≡ length (read_text by text n).numbers) × (x ≤ n)
unfolding read_text
text_count by text n x e = let z = read_count n 0 1 Nothing (kinds_of by text) x (omega arith) tt e in (omega (arith, z.0), z.1)
