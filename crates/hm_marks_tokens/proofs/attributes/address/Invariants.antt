use Rattle.std.proofs.Common.{◌≡◌, length}
use Rattle.hm_marks_tokens.specs.Attributes.{address_of}
use Rattle.hm_marks_tokens.proofs.attributes.address.Given as goal

abbrev pub decreases-loop-attribute : goal.decreases-loop-attribute
decreases-loop-attribute l = length l.rest

abbrev pub invariant-loop-attribute : goal.invariant-loop-attribute
invariant-loop-attribute l = address_of l.rest ≡ address_of l.bytes
