-- The loops' invariant: the verdict on the whole list is the verdict on the fields still to be read, from the cursor on; a turn takes one step or output off and judges it.
use mathlib.Core.Path.{◌≡◌, refl, sym, ap, ap₂, ◌∙◌}
use mathlib.Core.List.{List, [], ◌∷◌}
use Prim.Native.Nat.{ℕ, suc, ◌+◌, ◌-◌, ◌*◌, ◌^◌, ◌≤◌, ◌<◌}
use native.Mathlib.Nat.{suc-mul}
use native.Mathlib.Numerals.{add-one}
use native.Mathlib.Omega.{arith}
use lib.ListN.{length}
use Rattle.chain.specs.Tests.{◌<?◌}
use Rattle.chain.specs.Verdict.{Verdict, fine, refused, ◌then◌, refuse_if, Answer}
use Rattle.chain.specs.Written.{over}
use Rattle.chain.specs.Chain.{by, pairs, step_rule, steps_rule, outputs_rule, squarings_of}
use Rattle.chain.specs.Inner.{SquaringCounted}
use Rattle.chain.proofs.Squarings.{counted_one}
use Rattle.chain.proofs.Rules.{stop, pass, refuse_yes, refuse_no, lt_yes, lt_no}
use Rattle.bits.specs.Bits.{fields_at}
use Rattle.bits.specs.Inner.{FieldRoom, FieldTaken, TwoRoom, TwoTaken}
use Rattle.bits.proofs.Lengthened.{long-length, fields_long}
use Rattle.fields.specs.Inner.{widest_number}
use Rattle.layout.specs.declared.Extent.{Extent}
use Rattle.reading.specs.Inner.{Contained, LongContained, chain_counted}

-- n fields of w bits from position at on may be read
pub record FieldsWithin (bytes : List ℕ) (at w n : ℕ) : Type 0 where
  pub narrow : w ≤ widest_number
  pub some : 0 < w
  pub within : at + n * w ≤ 8 * length bytes
  pub fits : at + n * w < 2 ^ 64

module _ (bytes : List ℕ) (x : Extent) (ok : Contained bytes x) where
  pub steps_within : FieldsWithin bytes x.start x.width (2 * x.n)
  steps_within =
      let r = ok.proper in
      record { narrow = r.narrow; some = r.some; within = omega (arith, r.parts, ok.within); fits = omega (arith, r.parts, r.low) }

  pub outputs_within : FieldsWithin bytes (x.start + 2 * x.n * x.width) x.width x.q
  outputs_within =
      let r = ok.proper in
      record { narrow = r.narrow; some = r.some; within = omega (arith, r.parts, ok.within); fits = omega (arith, r.parts, r.low) }

-- what a list that begins with the bytes holds by the extent is what they hold
module _ (bytes old long : List ℕ) (is : long ≡ over bytes old) (x : Extent) (ok : Contained bytes x) where
  pub long_contained : length bytes ≤ length old → 8 ≤ length old → LongContained long x
  long_contained fits eight =
      let same = long-length bytes old long is fits in
      record { long = omega (arith, same); contained = record { proper = ok.proper; within = omega (arith, ok.within, same) } }

  pub long_judged : (a : Answer) → a ≡ chain_counted long x → a ≡ chain_counted bytes x
  long_judged a e =
      let steps = ap pairs (fields_long bytes old long is _ _ _ (steps_within bytes x ok).within) in
      let outputs = fields_long bytes old long is _ _ _ (outputs_within bytes x ok).within in
      e ∙ rw (steps, outputs)

-- a field of w bits is taken, and n are left
within-take : (bytes : List ℕ) (at w n : ℕ) → FieldsWithin bytes at w (suc n) → FieldRoom bytes at w
within-take bytes at w n ok =
    record {
      narrow = omega (arith, ok.narrow);
      within = omega (arith, ok.within, suc-mul n w);
      fits = omega (arith, ok.fits, suc-mul n w);
    }

within_rest : (bytes : List ℕ) (at w n v next : ℕ) → FieldsWithin bytes at w (suc n) → FieldTaken bytes at w v next → FieldsWithin bytes next w n
within_rest bytes at w n v next ok t =
    record {
      narrow = ok.narrow;
      some = ok.some;
      within = omega (arith, ok.within, suc-mul n w, t.moved);
      fits = omega (arith, ok.fits, suc-mul n w, t.moved);
    }

-- the invariant of the steps' loop: s steps are judged and k squarings counted among them; whole is the verdict on those that are left, from position c on,
-- and total are all squarings
pub record StepsLeft (whole : Verdict) (total : ℕ) (bytes : List ℕ) (p w n c s k : ℕ) : Type 0 where
  pub some_left : s ≤ n
  pub room : FieldsWithin bytes c w (2 * (n - s))
  pub same : whole ≡ steps_rule p (s + 1) (pairs (fields_at bytes c w (2 * (n - s))))
  pub counted : total ≡ k + squarings_of (pairs (fields_at bytes c w (2 * (n - s))))
  pub few : k ≤ s

pub steps_start : (bytes : List ℕ) (p at w n : ℕ) → FieldsWithin bytes at w (2 * n)
    → StepsLeft (steps_rule p 1 (pairs (fields_at bytes at w (2 * n)))) (squarings_of (pairs (fields_at bytes at w (2 * n)))) bytes p w n at 0 0
steps_start bytes p at w n ok =
    let e : n - 0 ≡ n = omega arith in
    record { some_left = omega arith; room = rw e ok; same = rw e; counted = rw e (omega arith); few = omega arith }

module _ (whole : Verdict) (total : ℕ) (bytes : List ℕ) (p w n c s k : ℕ) (inv : StepsLeft whole total bytes p w n c s k) where
  -- none is left
  module _ (h : n ≤ s) where
    none : pairs (fields_at bytes c w (2 * (n - s))) ≡ []
    unfolding fields_at
    none =
        let e : 2 * (n - s) ≡ 0 = omega arith in
        ap (λ (i : ℕ). pairs (fields_at bytes c w i)) e

    pub steps_end : fine ≡ whole
    steps_end = sym (inv.same ∙ ap (steps_rule p (s + 1)) none)

    pub squarings_end : k ≡ total
    unfolding squarings_of
    squarings_end = omega (arith, inv.counted, ap squarings_of none)

  module _ (h : s < n) where
    -- the steps' fields that are left after this one's two
    abbrev after : ℕ
    after = 2 * (n - (s + 1))

    left : 2 * (n - s) ≡ suc (suc after)
    left = omega arith

    two : FieldsWithin bytes c w (suc (suc after))
    two = rw (← left) inv.room

    pub step_room : 8 ≤ length bytes → TwoRoom bytes c w
    step_room long =
        record {
          long = long;
          some = two.some;
          room =
              record {
                narrow = omega (arith, two.narrow);
                within = omega (arith, two.within, suc-mul (suc after) w, suc-mul after w);
                fits = omega (arith, two.fits, suc-mul (suc after) w, suc-mul after w);
              };
        }

    module _ (a b next : ℕ) (t : TwoTaken bytes c w a b next) where
      -- the steps left are this one and those after it
      one_off : pairs (fields_at bytes c w (2 * (n - s))) ≡ by a b ∷ pairs (fields_at bytes next w after)
      unfolding fields_at
      one_off =
          ap (λ (i : ℕ). pairs (fields_at bytes c w i)) left
          ∙ ap₂ (λ (u v : ℕ). by u v ∷ pairs (fields_at bytes (c + w + w) w after)) (sym t.first.is) (sym t.second.is)
          ∙ ap (λ (i : ℕ). by a b ∷ pairs (fields_at bytes i w after)) (sym t.second.moved)

      rest : Verdict
      rest = steps_rule p (s + 1 + 1) (pairs (fields_at bytes next w after))

      here : whole ≡ (step_rule (p + s + 1) (s + 1) (by a b) then rest)
      unfolding rest
      here =
          let e : p + (s + 1) ≡ p + s + 1 = omega arith in
          inv.same ∙ ap (steps_rule p (s + 1)) one_off
          ∙ ap₂ (λ (i v : ℕ). step_rule v (s + 1) (by a b) then steps_rule p i (pairs (fields_at bytes next w after))) (sym (add-one (s + 1))) e

      pub step_bad : (number place : ℕ) → refused number place ≡ step_rule (p + s + 1) (s + 1) (by a b) → refused number place ≡ whole
      step_bad number place told = stop _ _ number place told ∙ sym here

      pub step_on : fine ≡ step_rule (p + s + 1) (s + 1) (by a b) → (d : ℕ) → SquaringCounted (by a b) d
          → StepsLeft whole total bytes p w n next (s + 1) (k + d)
      unfolding rest squarings_of
      step_on told d one_more =
          record {
            some_left = omega arith;
            room = within_rest bytes (c + w) w after b next (within_rest bytes c w (suc after) a (c + w) two t.first) t.second;
            same = here ∙ sym (pass _ _ _ told refl);
            counted = omega (arith, inv.counted, ap squarings_of one_off, counted_one _ _ _ d told one_more);
            few = omega (arith, inv.few, one_more.low);
          }

-- the invariant of the outputs' loop
pub record OutputsLeft (whole : Verdict) (bytes : List ℕ) (top w q c i : ℕ) : Type 0 where
  pub some_left : i ≤ q
  pub room : FieldsWithin bytes c w (q - i)
  pub same : whole ≡ outputs_rule top (i + 1) (fields_at bytes c w (q - i))

pub outputs_start : (bytes : List ℕ) (top at w q : ℕ) → FieldsWithin bytes at w q → OutputsLeft (outputs_rule top 1 (fields_at bytes at w q)) bytes top w q at 0
outputs_start bytes top at w q ok =
    let e : q - 0 ≡ q = omega arith in
    record { some_left = omega arith; room = rw e ok; same = rw e }

module _ (whole : Verdict) (bytes : List ℕ) (top w q c i : ℕ) (inv : OutputsLeft whole bytes top w q c i) where
  pub outputs_end : q ≤ i → fine ≡ whole
  unfolding fields_at
  outputs_end h =
      let e : q - i ≡ 0 = omega arith in
      sym (inv.same ∙ ap (λ (k : ℕ). outputs_rule top (i + 1) (fields_at bytes c w k)) e)

  module _ (h : i < q) where
    one_more : q - i ≡ suc (q - (i + 1))
    one_more = omega arith

    more : FieldsWithin bytes c w (suc (q - (i + 1)))
    more = rw (← one_more) inv.room

    pub output_room_lem : FieldRoom bytes c w
    output_room_lem = within-take bytes c w (q - (i + 1)) more

    module _ (o next : ℕ) (t : FieldTaken bytes c w o next) where
      now_left : whole ≡ (refuse_if (top <? o) 12 (i + 1) then outputs_rule top (i + 1 + 1) (fields_at bytes next w (q - (i + 1))))
      unfolding fields_at
      now_left =
          inv.same ∙ ap (λ (k : ℕ). outputs_rule top (i + 1) (fields_at bytes c w k)) one_more
          ∙ ap₂ (λ (v k : ℕ). refuse_if (top <? v) 12 (i + 1) then outputs_rule top (suc (i + 1)) (fields_at bytes k w (q - (i + 1)))) (sym t.is) (sym t.moved)
          ∙ ap (λ (k : ℕ). refuse_if (top <? o) 12 (i + 1) then outputs_rule top k (fields_at bytes next w (q - (i + 1)))) (sym (add-one (i + 1)))

      pub output_bad : top < o → refused 12 (i + 1) ≡ whole
      output_bad high = stop _ _ 12 (i + 1) (refuse_yes _ 12 (i + 1) (lt_yes top o high)) ∙ sym now_left

      pub output_on : o ≤ top → OutputsLeft whole bytes top w q next (i + 1)
      output_on low =
          record {
            some_left = omega arith;
            room = within_rest bytes c w (q - (i + 1)) o next more t;
            same = now_left ∙ sym (pass _ _ _ (refuse_no _ 12 (i + 1) (lt_no top o low)) refl);
          }
