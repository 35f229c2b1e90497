use Rattle.std.proofs.Common.{All}
use Rattle.hm_schema.specs.Membership.{IsMemberTree}
use Rattle.lens_trials.proofs.members.members.Given as goal

abbrev pub invariant-loop-name : goal.invariant-loop-name
invariant-loop-name g l = All (IsMemberTree l.schema) l.trees.items
