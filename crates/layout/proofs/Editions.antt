-- Edition 1 is sound: its numbers are small, and each bound is computed.
use native.Mathlib.Omega.{arith}
use Rattle.layout.specs.Layout.{edition1}
use Rattle.layout.specs.Inner.{SoundLayout}

pub edition1_sound : SoundLayout edition1
edition1_sound =
    record { edition_fits = omega arith; long = omega arith; short = omega arith; counted = omega arith; narrow = omega arith }
