use Rattle.std.proofs.Common.{take}
use Rattle.hm_terms_cycles.specs.Callees.{AreCallees}
use Rattle.hm_terms_cycles.proofs.callees.callees.Given as goal

abbrev pub invariant-loop-definition : goal.invariant-loop-definition
invariant-loop-definition l = AreCallees (take l.definition-index l.definitions) l.places l.callees.items
