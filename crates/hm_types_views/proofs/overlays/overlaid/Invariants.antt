use Rattle.std.proofs.Common.{◌≡◌, take, map, Some}
use Rattle.std.specs.List.{zip}
use Rattle.hm_types_views.specs.Overlays.{overlay}
use Rattle.hm_types_views.proofs.overlays.overlaid.Given as goal

abbrev pub invariant-loop-name : goal.invariant-loop-name
invariant-loop-name l = map Some l.next.items ≡ map (overlay l.names (zip l.ones l.one_next) (zip l.twos l.two_next)) (take l.name-index l.name-items)
