use Rattle.std.proofs.Common.{All, take}
use Rattle.hm_types_views.specs.Conditions.{IsIn}
use Rattle.hm_types_views.proofs.merging.are_among.Given as goal

abbrev pub invariant-loop-name : goal.invariant-loop-name
invariant-loop-name l = All (λ k. IsIn l.others k) (take l.name-index l.names)
