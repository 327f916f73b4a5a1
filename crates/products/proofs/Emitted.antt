-- Steps stored over a slice's front are read back as they are; so emitters that each append steps can be put one after the other.
use mathlib.Core.Path.{◌≡◌, refl, sym, ap, ap₂, ◌∙◌}
use mathlib.Core.List.{List, [], ◌∷◌, ◌++◌, append_assoc}
use Prim.Native.Nat.{ℕ, ◌+◌, ◌*◌, ◌≤◌, min, max}
use native.Mathlib.Omega.{arith}
use lib.ListN.{length, take, set, length-append}
use lib.Seq.{length-take-le}
use Rattle.chain.specs.Chain.{by, pairs, flat, one, is_squaring, squarings_of}
use Rattle.chain.specs.Written.{over, laid}
use Rattle.chain.specs.Inner.{SquaringCounted}
use Rattle.chain.specs.declared.Step.{Step}
use Rattle.chain.proofs.Pairs.{length_pairs, pairs_flat, length-flat, flat_append, flat_pairs}
use Rattle.chain.proofs.Squarings.{squarings-append, squarings_few, squarings_one}
use Rattle.chain.proofs.Written.{laid_nil, laid_pair, over-length, take-over, over-take, over_over}
use Rattle.products.specs.Product.{Made, made, ordered}
use Rattle.products.specs.Inner.{steps_in, begun, SoFar, MoreRoom, StepsRoom, StepsStored, Emitted}
use Rattle.products.specs.declared.Progress.{Progress}
use Rattle.products.proofs.Sound.{Begins, begins_length}

-- what stands in a slice already
pub length_in : (cells : List ℕ) (n : ℕ) → 2 * n ≤ length cells → length (steps_in cells n) ≡ n
length_in cells n fits = length_pairs (take (2 * n) cells) ∙ omega (arith, length-take-le (2 * n) cells fits)

flat_in : (cells : List ℕ) (n : ℕ) → 2 * n ≤ length cells → flat (steps_in cells n) ≡ take (2 * n) cells
flat_in cells n fits = flat_pairs n (take (2 * n) cells) (length-take-le (2 * n) cells fits)

module _ (cells : List ℕ) (r : Progress) (so_far : SoFar cells r) where
  pub length-steps_in : length (steps_in cells r.steps) ≡ r.steps
  length-steps_in = length_in cells r.steps so_far.fits

  pub squarings_within : r.squarings ≤ r.steps
  squarings_within = omega (arith, so_far.counted, squarings_few (steps_in cells r.steps), length-steps_in)

  pub stored_own : StepsStored cells cells r (steps_in cells r.steps)
  stored_own =
      record {
        cells_are = sym (rw (flat_in cells r.steps so_far.fits) (over-take (2 * r.steps) cells so_far.fits));
        count = sym length-steps_in;
        squarings = so_far.counted;
      }

pub emitted_own : (p : ℕ) (cells : List ℕ) (r : Progress) (v : ℕ) (steps : List Step) → StepsRoom p cells r steps
    → Emitted cells cells r v (made (steps_in cells r.steps) v)
emitted_own p cells r v steps room = record { stored = stored_own cells r room.so_far; value = refl }

-- nothing stands before the first step
pub so_far_none : (cells : List ℕ) → SoFar cells begun
unfolding squarings_of
so_far_none cells = record { fits = omega arith; counted = refl }

-- the steps in a slice are those that were stored
pub stored_is : {old cells : List ℕ} {r : Progress} {steps : List Step} → StepsStored old cells r steps → steps_in cells r.steps ≡ steps
stored_is {old} {cells} {r} {steps} s =
    let long : length (flat steps) ≡ 2 * r.steps = omega (arith, length-flat steps, s.count) in
    rw s.cells_are (ap pairs (take-over (2 * r.steps) (flat steps) old long) ∙ pairs_flat steps)

pub stored-length : {old cells : List ℕ} {r : Progress} {steps : List Step} → StepsStored old cells r steps → 2 * length steps ≤ length old → length cells ≡ length old
stored-length {old} {cells} {r} {steps} s h = ap length s.cells_are ∙ over-length (flat steps) old (omega (arith, length-flat steps))

pub stored_so_far : {old cells : List ℕ} {r : Progress} {steps : List Step} → StepsStored old cells r steps → 2 * length steps ≤ length old → SoFar cells r
stored_so_far s h =
    record {
      fits = omega (arith, s.count, stored-length s h);
      counted = s.squarings ∙ sym (ap squarings_of (stored_is s));
    }

pub emitted_is : {old cells : List ℕ} {r : Progress} {v : ℕ} {m : Made} → Emitted old cells r v m → made (steps_in cells r.steps) v ≡ m
emitted_is e = ap₂ made (stored_is e.stored) e.value

-- a list after a slice's own front
over_front : (n : ℕ) (t l : List ℕ) → n ≤ length l → over (take n l ++ t) l ≡ laid n t l
unfolding over laid
over_front n t l h =
    let long : length (take n l ++ t) ≡ n + length t = length-append (take n l) t ∙ omega (arith, length-take-le n l h) in
    rw (long, append_assoc)

-- one step more, which is counted if it is a squaring
module _ (cells : List ℕ) (r : Progress) (room : MoreRoom cells r 1) where
  abbrev one_more : ℕ → Progress
  one_more k = record { steps = r.steps + 1; squarings = k }

  stored_put : (a b k : ℕ) → k ≡ r.squarings + one is_squaring (by a b)
      → StepsStored cells (set (set cells (2 * r.steps) a) (2 * r.steps + 1) b) (one_more k) (steps_in cells r.steps ++ by a b ∷ [])
  stored_put a b k is =
      let n = r.steps in
      let enough = room.enough in
      record {
        cells_are =
            sym (laid_nil (2 * n + 2) _)
            ∙ laid_pair (2 * n) a b [] cells (omega arith)
            ∙ sym (over_front (2 * n) (a ∷ b ∷ []) cells (omega arith))
            ∙ ap (λ (l : List ℕ). over l cells)
            (sym (flat_append (steps_in cells n) (by a b ∷ []) ∙ ap (λ (l : List ℕ). l ++ a ∷ b ∷ []) (flat_in cells n room.so_far.fits)));
        count = sym (length-append (steps_in cells n) _ ∙ omega (arith, length-steps_in cells r room.so_far));
        squarings =
            omega (arith, is, room.so_far.counted, squarings-append (steps_in cells n) (by a b ∷ []), squarings_one (by a b));
      }

  -- x is the step that multiplies a and b
  pub put_ordered : (a b d : ℕ) (x : Step) → x ≡ ordered a b → SquaringCounted (by x.first x.second) d
      → StepsStored cells (set (set cells (2 * r.steps) x.first) (2 * r.steps + 1) x.second) (one_more (r.squarings + d))
      (steps_in cells r.steps ++ ordered a b ∷ [])
  put_ordered a b d x is counted =
      let c = rw is at counted.is in
      rw is (stored_put (max a b) (min a b) (r.squarings + d) (ap (λ (k : ℕ). r.squarings + k) (c (omega arith))))

-- steps stored after others, which they begin with
pub stored_on : {old cells cells' : List ℕ} {r r' : Progress} {a b : List Step} → StepsStored old cells r a → Begins a b → StepsStored cells cells' r' b
    → StepsStored old cells' r' b
stored_on {old} {cells} {cells'} {r} {r'} {a} {b} s f t =
    record {
      cells_are =
          t.cells_are
          ∙ ap (over (flat b)) s.cells_are
          ∙ over_over (flat a) (flat b) old (omega (arith, length-flat a, length-flat b, begins_length f));
      count = t.count;
      squarings = t.squarings;
    }

-- An emitter is called with the slice as it stands and keeps to its contract; f is what it does to the steps, or to a product.
-- There is room for the whole, of which its steps are the beginning.
module _ {p : ℕ} {old : List ℕ} {r₀ : Progress} {whole : List Step} (room : StepsRoom p old r₀ whole) where
  pub stored_room : {cells : List ℕ} {r : Progress} {a b : List Step} → StepsStored old cells r a → Begins a b → Begins b whole → StepsRoom p cells r b
  stored_room {cells} {r} {a} {b} s f g =
      let la = begins_length f in
      let lb = begins_length g in
      let hold = room.cells_hold in
      let fit = room.numbers_fit in
      let long = stored-length s (omega arith) in
      record { so_far = stored_so_far s (omega arith); cells_hold = omega arith; numbers_fit = omega arith }

  pub emits_room : (f : Made → Made) {cells : List ℕ} {r : Progress} {v : ℕ} {m : Made} → Emitted old cells r v m → Begins m.steps (f m).steps
      → Begins (f m).steps whole → StepsRoom p cells r (f (made (steps_in cells r.steps) v)).steps
  emits_room f e b c = rw (emitted_is e) (stored_room e.stored b c)

pub emits_on : (f : Made → Made) {old cells cells' : List ℕ} {r r' : Progress} {v v' : ℕ} {m : Made} → Emitted old cells r v m
    → Begins m.steps (f m).steps → Emitted cells cells' r' v' (f (made (steps_in cells r.steps) v)) → Emitted old cells' r' v' (f m)
emits_on f e b t =
    let u = rw (emitted_is e) at t in
    record { stored = stored_on e.stored b u.stored; value = u.value }
