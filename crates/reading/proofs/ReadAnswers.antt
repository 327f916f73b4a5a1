-- The read rule is the header's rules and then the body's, by the extent that the header gives; each judge's verdict decides its half, and the lists read are the chain's.
use mathlib.Core.Path.{◌≡◌, refl, sym, ap, ◌∙◌, subst}
use mathlib.Core.List.{List, ◌∷◌}
use Prim.Native.Nat.{ℕ, ◌+◌, ◌-◌, ◌*◌, ◌/◌, ◌≤◌}
use native.Mathlib.Omega.{arith}
use lib.ListN.{length}
use Rattle.chain.specs.Tests.{◌<?◌, ◌≠?◌, ◌or◌}
use Rattle.chain.specs.Verdict.{Verdict, fine, refused, ◌then◌, refuse_if, Answer, done, refusal, answer, on_fine}
use Rattle.chain.specs.Written.{over}
use Rattle.chain.specs.Chain.{flat, length_rule, steps_rule, outputs_rule, chain_rule, counts}
use Rattle.chain.proofs.Rules.{stop, pass, then_fine, then_assoc, refuse_if_fine, neither, not_lt, not_ne, answer_refused, answer_done, kept, renewed}
use Rattle.chain.proofs.Pairs.{length_pairs, flat_pairs}
use Rattle.chain.proofs.Sizes.{length-fits}
use Rattle.bits.specs.Bits.{field_at, fields_at}
use Rattle.bits.specs.Inner.{FieldRoom}
use Rattle.bits.proofs.Fields.{length_fields_at}
use Rattle.fields.specs.Inner.{FieldsRoom}
use Rattle.layout.specs.declared.Layout.{Layout}
use Rattle.layout.specs.declared.Extent.{Extent}
use Rattle.layout.specs.File.{columns_of, payslips_of, length_of, steps_of, outputs_of, read_rule, read_answer, read_steps, read_outputs}
use Rattle.layout.specs.Inner.{SoundLayout, Sized, extent_of}
use Rattle.layout.proofs.Lengths.{width_some, top_low, width_low, count_parts, count_fits}
use Rattle.layout.proofs.Readable.{header_sized}
use Rattle.reading.specs.declared.Header.{Header}
use Rattle.reading.specs.Inner.{header_in, extent_in, header_rule, Proper, Contained, file_steps, file_outputs, body_rule, BodyRead, FileRead, ListsTaken}

-- the header's rules, in terms of what was read
module _ (L : Layout) (bytes : List ℕ) (h : Header) (is : h ≡ header_in bytes L.bits) where
  pub header_is : (v : Verdict)
      → v ≡ (refuse_if (length bytes <? 4) 6 0 then refuse_if (h.edition ≠? L.edition) 7 0 then length_rule L.limit h.n)
      → v ≡ header_rule L bytes
  unfolding header_rule
  header_is v e = e ∙ ap (λ (g : Header). refuse_if (length bytes <? 4) 6 0 then refuse_if (g.edition ≠? L.edition) 7 0 then length_rule L.limit g.n) is

  pub sized_by : h.n ≤ L.limit → Sized L h.p h.q h.n
  sized_by low =
      subst (λ (g : Header). Sized L g.p g.q g.n) (sym is) (header_sized L bytes (omega (arith, low, ap (λ (g : Header). g.n) is)))

  pub extent_is : (x : Extent) → x ≡ extent_of L h.p h.q h.n → x ≡ extent_in L bytes
  extent_is x e = e ∙ ap (λ (g : Header). extent_of L g.p g.q g.n) is

-- what the header's judge hands on
module _ (L : Layout) (bytes : List ℕ) where
  pub found_proper : SoundLayout L → (x : Extent) → (fine ≡ header_rule L bytes) × (x ≡ extent_in L bytes) → Proper x
  unfolding header_rule
  found_proper sound x f =
      let few = length-fits L.limit (length_of L bytes) (then_fine _ _ (then_fine _ _ (sym f.0)).1).1 in
      let s = header_sized L bytes few in
      subst Proper (sym f.1)
      (record {
        narrow = omega (arith, width_low L sound _ _ _ s);
        some = width_some (columns_of bytes) (length_of L bytes) (omega arith);
        parts = count_parts L (columns_of bytes) (payslips_of bytes) (length_of L bytes);
        low = count_fits L sound _ _ _ s;
        whole = refl;
        top = omega (arith, top_low L sound _ _ _ s);
      })

-- the body, by its extent
module _ (bytes : List ℕ) (x : Extent) where
  pub steps_count : length (file_steps bytes x) ≡ x.n
  steps_count =
      length_pairs (fields_at bytes x.start x.width (2 * x.n)) ∙ omega (arith, length_fields_at bytes x.start x.width (2 * x.n))

  flat_steps : flat (file_steps bytes x) ≡ fields_at bytes x.start x.width (2 * x.n)
  flat_steps = flat_pairs x.n _ (length_fields_at bytes x.start x.width (2 * x.n))

  -- the chain's rules, with n as the extent has it
  pub chain_is : (v : Verdict) → v ≡ (steps_rule x.p 1 (file_steps bytes x) then outputs_rule (x.p + x.n) 1 (file_outputs bytes x))
      → v ≡ chain_rule x.p (file_steps bytes x) (file_outputs bytes x)
  unfolding chain_rule
  chain_is v e =
      e ∙ ap (λ (k : ℕ). steps_rule x.p 1 (file_steps bytes x) then outputs_rule (x.p + k) 1 (file_outputs bytes x)) (sym steps_count)

  module _ (ok : Proper x) where
    -- bytes of the right length hold the extent, and end in less than a byte of filling
    module _ (long : length bytes ≡ x.bytes) where
      pub contained : Contained bytes x
      contained = record { proper = ok; within = omega (arith, long, ok.whole) }

      pub filling_room : FieldRoom bytes x.total (8 * length bytes - x.total)
      filling_room = record { narrow = omega (arith, long, ok.whole); within = omega (arith, long, ok.whole); fits = omega (arith, long, ok.whole, ok.low) }

    -- the rules, in terms of the filling that was read
    pub body_is : (f room places : ℕ) → f ≡ field_at bytes x.total (8 * length bytes - x.total) → (v : Verdict)
        → v
        ≡ (refuse_if (length bytes ≠? x.bytes) 6 0
        then refuse_if (room <? x.n or places <? x.q) 5 0
        then refuse_if (f ≠? 0) 8 0
        then chain_rule x.p (file_steps bytes x) (file_outputs bytes x))
        → v ≡ body_rule bytes x room places
    unfolding body_rule
    body_is f room places is v e = e ∙ rw is

    module _ (steps outputs : List ℕ) where
      pub body_refused : (k s : ℕ) → refused k s ≡ body_rule bytes x (length steps / 2) (length outputs)
          → BodyRead bytes x steps outputs (refusal k s) steps outputs
      body_refused k s v = record { answered = answer_refused _ _ k s v; steps_left_lem = kept _ _ steps k s v; outputs_left = kept _ _ outputs k s v }

      module _ (passed : fine ≡ body_rule bytes x (length steps / 2) (length outputs)) where
        pub lists_room : FieldsRoom bytes x.start x.width (2 * x.n) steps
            × FieldsRoom bytes (x.start + 2 * x.n * x.width) x.width x.q outputs
        unfolding body_rule
        lists_room =
            let a = then_fine _ _ (sym passed) in
            let b = then_fine _ _ a.1 in
            let rooms = neither _ _ (refuse_if_fine _ 5 0 b.0) in
            let pairs_room : x.n ≤ length steps / 2 = not_lt _ _ rooms.0 in
            let places : x.q ≤ length outputs = not_lt _ _ rooms.1 in
            let c = contained (not_ne _ _ (refuse_if_fine _ 6 0 a.0)) in (
              record {
                narrow = ok.narrow;
                some = ok.some;
                within = omega (arith, ok.parts, c.within);
                fits = omega (arith, ok.parts, ok.low);
                room = omega (arith, pairs_room);
              },
              record {
                narrow = ok.narrow;
                some = ok.some;
                within = omega (arith, ok.parts, c.within);
                fits = omega (arith, ok.parts, ok.low);
                room = places;
              },
            )

        pub body_done : (told steps' outputs' : List ℕ) → told ≡ counts (file_steps bytes x)
            → ListsTaken bytes x.start x.width x.n x.q steps outputs steps' outputs'
            → BodyRead bytes x steps outputs (done (x.p ∷ x.q ∷ told)) steps' outputs'
        body_done told steps' outputs' is t =
            record {
              answered = ap (λ (l : List ℕ). done (x.p ∷ x.q ∷ l)) is ∙ answer_done _ _ passed;
              steps_left_lem = renewed _ _ steps _ passed (t.steps_taken ∙ ap (λ (l : List ℕ). over l steps) (sym flat_steps));
              outputs_left = renewed _ _ outputs _ passed t.outputs_taken;
            }

-- both together
module _ (L : Layout) (bytes steps outputs : List ℕ) where
  rule_is : (x y : ℕ) → read_rule L bytes x y ≡ (header_rule L bytes then body_rule bytes (extent_in L bytes) x y)
  unfolding read_rule header_rule body_rule steps_of outputs_of
  rule_is x y = sym (then_assoc _ _ _ ∙ ap (λ (v : Verdict). refuse_if (length bytes <? 4) 6 0 then v) (then_assoc _ _ _))

  pub file_refused : (k s : ℕ) → refused k s ≡ header_rule L bytes → FileRead L bytes steps outputs (refusal k s) steps outputs
  unfolding read_answer read_steps read_outputs
  file_refused k s e =
      let v = stop _ _ k s e ∙ sym (rule_is (length steps / 2) (length outputs)) in
      record { answered = answer_refused _ _ k s v; steps_left_lem = kept _ _ steps k s v; outputs_left = kept _ _ outputs k s v }

  pub file_read_lem : (x : Extent) → (fine ≡ header_rule L bytes) × (x ≡ extent_in L bytes) → (a : Answer) (steps' outputs' : List ℕ)
      → BodyRead bytes x steps outputs a steps' outputs' → FileRead L bytes steps outputs a steps' outputs'
  unfolding read_answer read_steps read_outputs steps_of outputs_of
  file_read_lem x (ok, is) a steps' outputs' b =
      let y = extent_in L bytes in
      let r : BodyRead bytes y steps outputs a steps' outputs' = subst (λ (z : Extent). BodyRead bytes z steps outputs a steps' outputs') is b in
      let same : body_rule bytes y (length steps / 2) (length outputs) ≡ read_rule L bytes (length steps / 2) (length outputs) =
      pass _ _ _ ok refl ∙ sym (rule_is (length steps / 2) (length outputs)) in
      record {
        answered = r.answered ∙ ap (λ (v : Verdict). answer v (columns_of bytes ∷ payslips_of bytes ∷ counts (steps_of L bytes))) same;
        steps_left_lem = r.steps_left_lem ∙ ap (λ (v : Verdict). on_fine v (over (flat (steps_of L bytes)) steps) steps) same;
        outputs_left = r.outputs_left ∙ ap (λ (v : Verdict). on_fine v (over (outputs_of L bytes) outputs) outputs) same;
      }
