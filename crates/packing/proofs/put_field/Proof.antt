-- The five bytes stored are those of the amount's field (`field_parted`), laid one after the other.
use borrow.Author.Rules.{rules}
use mathlib.Core.Path.{sym, ap, ◌∙◌}
use mathlib.Core.List.{List}
use Prim.Native.Nat.{ℕ}
use native.Mathlib.Omega.{arith}
use lib.ListN.{length-set}
use Rattle.chain.specs.Written.{laid}
use Rattle.packing.proofs.Stored.{five_stored, field_parted}
use Rattle.packing.proofs.put_field.Statement.{statement}
use Rattle.packing.proofs.put_field.Tie as tie

slice-write-bytes-2 : tie.Need-bounds-bytes-at-2
slice-write-bytes-2 c = simp length-set (omega arith)

slice-write-bytes-3 : tie.Need-bounds-bytes-at-3
slice-write-bytes-3 c = simp length-set (omega arith)

slice-write-bytes-4 : tie.Need-bounds-bytes-at-4
slice-write-bytes-4 c = simp length-set (omega arith)

slice-write-bytes-5 : tie.Need-bounds-bytes-at-5
slice-write-bytes-5 c = simp length-set (omega arith)

returns : tie.Need-returns
returns c =
    let four = c in
    let three = four.before in
    let two = three.before in
    let one = two.before in
    let start = one.before.before in
    let first = one.pair.ensures in
    let second = two.pair-2.ensures in
    let third = three.pair-3.ensures in
    let fourth = four.pair-4.ensures in
    five_stored start.args.bytes.now start.args.at _ _ _ _ _ start.requires.room
    ∙ ap (λ (l : List ℕ). laid start.args.at l start.args.bytes.now) (sym (field_parted start.args.amount start.requires.amount_low ∙ sym cc))

pub put_field_spec : {M : Type 1} → statement M
put_field_spec =
    tie.close
    (tie.spec (λ c κs. search rules) (λ c. search rules) (λ c κs. search rules) (λ c. search rules) slice-write-bytes-2 (λ c κs. search rules)
    (λ c. search rules) slice-write-bytes-3 (λ c κs. search rules) (λ c. search rules) slice-write-bytes-4 (λ c. search rules) (λ c. search rules)
    (λ c. search rules) (λ c. search rules) slice-write-bytes-5 (λ c. search rules) returns)
