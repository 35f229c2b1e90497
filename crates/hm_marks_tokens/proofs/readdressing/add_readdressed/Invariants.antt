use Rattle.std.proofs.Common.{◌≡◌, ◌++◌, length}
use Rattle.hm_marks_tokens.specs.Attributes.{with_address}
use Rattle.hm_marks_tokens.specs.Entities.{escaped}
use Rattle.hm_marks_tokens.proofs.readdressing.add_readdressed.Given as goal

abbrev pub decreases-loop-attribute : goal.decreases-loop-attribute
decreases-loop-attribute l = length l.rest

abbrev pub invariant-loop-attribute : goal.invariant-loop-attribute
invariant-loop-attribute l = l.out.items ++ with_address (escaped l.address) l.rest ≡ l.fn.out.items ++ with_address (escaped l.address) l.attributes
