-- At each turn the spot of the place is reached from the spot at hand by the bytes that are left.
use Rattle.places.specs.Places.{spot_of}
use Rattle.places.proofs.Spots.{Reached}
use Rattle.places.proofs.spot_of.Given as goal

abbrev pub invariant-loop-b : goal.invariant-loop-b
invariant-loop-b l = Reached l.b-items (spot_of l.text l.place) l.spot l.b-index
