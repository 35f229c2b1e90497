use Rattle.std.proofs.Common.{◌≡◌, length}
use Rattle.hm_marks_tokens.specs.Attributes.{attributes_of}
use Rattle.hm_marks_tokens.proofs.attributes.behind_attributes.Given as goal

abbrev pub decreases-loop-behind : goal.decreases-loop-behind
decreases-loop-behind l = length l.rest

abbrev pub invariant-loop-behind : goal.invariant-loop-behind
invariant-loop-behind l = (attributes_of l.rest).1 ≡ (attributes_of l.bytes).1
