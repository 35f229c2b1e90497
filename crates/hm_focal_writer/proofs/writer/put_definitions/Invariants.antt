use Rattle.std.proofs.Common.{◌≡◌, ◌++◌, take}
use Rattle.std.specs.Prelude.{flat_map}
use Rattle.hm_terms.specs.declared.term.Definition.{Definition}
use Rattle.hm_terms.specs.Programs.{definition_value}
use Rattle.hm_schema_writer.specs.Writing.{ended}
use Rattle.hm_focal_writer.specs.Writing.{definition_text}
use Rattle.hm_focal_writer.proofs.writer.put_definitions.Given as goal

abbrev pub invariant-loop-definition : goal.invariant-loop-definition
invariant-loop-definition l =
    l.text.items ≡ l.initial.text.items
    ++ flat_map (λ (d : Definition). ended (definition_text l.names (definition_value d))) (take l.definition-index l.definitions)
