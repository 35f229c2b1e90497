use Rattle.std.proofs.Common.{take}
use Rattle.hm_eval_terms.specs.Terms.{IsIndex}
use Rattle.hm_eval_terms.proofs.bodies.bodies_of.Given as goal

abbrev pub invariant-loop-definition : goal.invariant-loop-definition
invariant-loop-definition l = IsIndex (take l.definition-index l.definitions) l.bodies.items
