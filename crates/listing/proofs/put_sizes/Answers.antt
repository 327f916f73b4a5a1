-- Three numbers with blanks between them and a newline are the first line, which has room.
use Rattle.std.proofs.Common.{arith}
use Rattle.listing.proofs.Lines.{put_two, put_line, sizes_short}
use Rattle.listing.proofs.put_sizes.Goals as goal

pub put_decimal-first-requires : goal.put_decimal-first-requires
put_decimal-first-requires c =
    let short = sizes_short _ _ _ _ _ c.requires in
    omega (arith, short.0, c.requires.room)

pub put_field-second-requires : goal.put_field-second-requires
put_field-second-requires c =
    let short = sizes_short _ _ _ _ _ c.requires in
    omega (arith, short.0, short.1, c.put_decimal-first.ensures.place, c.put_decimal-first.auto.text, c.requires.room)

pub put_field-end-requires : goal.put_field-end-requires
put_field-end-requires c =
    let short = sizes_short _ _ _ _ _ c.requires in
    omega (arith, short.0, short.1, short.2, c.put_decimal-first.ensures.place, c.put_decimal-first.auto.text, c.put_field-second.ensures.place, c.put_field-second.auto.text, c.requires.room)

pub bounds-text-end : goal.bounds-text-end
bounds-text-end c =
    let short = sizes_short _ _ _ _ _ c.requires in
    omega (arith, short.0, short.1, short.2, c.put_decimal-first.ensures.place, c.put_field-second.ensures.place, c.put_field-end.ensures.place, c.put_decimal-first.auto.text, c.put_field-second.auto.text, c.put_field-end.auto.text, c.requires.room)

pub overflow_add-result : goal.overflow_add-result
overflow_add-result c =
    let short = sizes_short _ _ _ _ _ c.requires in
    omega (arith, short.0, short.1, short.2, c.put_decimal-first.ensures.place, c.put_field-second.ensures.place, c.put_field-end.ensures.place)

pub returns : goal.returns
returns c =
    let short = sizes_short _ _ _ _ _ c.requires in
    let two =
    put_two _ _ _ _ _ _ _ _ (omega (arith, short.0, c.put_decimal-first.ensures.place, c.put_decimal-first.auto.text, c.requires.room)) c.put_field-second.ensures
    c.put_field-end.ensures in
    record {
      put = put_line _ _ _ _ _ _ _ _ c.put_decimal-first.ensures two
          (omega (arith, short.0, short.1, short.2, c.put_decimal-first.ensures.place, c.put_field-second.ensures.place, c.put_field-end.ensures.place, c.put_decimal-first.auto.text, c.put_field-second.auto.text, c.requires.room));
      short = omega (arith, short.0, short.1, short.2, c.put_decimal-first.ensures.place, c.put_field-second.ensures.place, c.put_field-end.ensures.place);
    }
