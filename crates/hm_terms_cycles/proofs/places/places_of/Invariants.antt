use Rattle.std.proofs.Common.{take}
use Rattle.hm_terms_cycles.specs.Places.{names_by, ArePlaces}
use Rattle.hm_terms_cycles.proofs.places.places_of.Given as goal

abbrev pub invariant-loop-i : goal.invariant-loop-i
invariant-loop-i l = ArePlaces (names_by (take l.i l.definitions)) l.places.items
