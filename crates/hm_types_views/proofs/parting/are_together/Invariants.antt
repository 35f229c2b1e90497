use Rattle.std.proofs.Common.{All, take}
use Rattle.hm_types_views.specs.Conditions.{IsTogether}
use Rattle.hm_types_views.proofs.parting.are_together.Given as goal

abbrev pub invariant-loop-twin : goal.invariant-loop-twin
invariant-loop-twin l = All (IsTogether l.names) (take l.twin-index l.twins)
