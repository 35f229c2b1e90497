use Rattle.std.proofs.Common.{take, map}
use Rattle.hm_terms.specs.Programs.{definition_value}
use Rattle.hm_types.specs.DeclaredNodes.{DeclaresAll}
use Rattle.hm_types.proofs.declaring.declared_of.Given as goal

-- the first definitions are declared
abbrev pub invariant-loop-definition : goal.invariant-loop-definition
invariant-loop-definition l = DeclaresAll (map definition_value (take l.definition-index l.definitions)) l.by l.declared.items
