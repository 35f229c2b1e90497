use Rattle.std.proofs.Common.{◌<◌, length}
use Rattle.hm_graph.specs.Forests.{Climbs, IsShortened}
use Rattle.hm_graph.proofs.sameness.root.Given as goal

abbrev pub invariant-loop-here : goal.invariant-loop-here
invariant-loop-here l = record {
  in_range : l.here < length l.parents.items;
  shortened : IsShortened l.initial.parents.items l.parents.items;
  climbs : Climbs l.initial.parents.items l.start l.here;
}

abbrev pub decreases-loop-here : goal.decreases-loop-here
decreases-loop-here l = l.here
