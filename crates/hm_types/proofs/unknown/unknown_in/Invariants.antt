use Rattle.std.proofs.Common.{◌≡◌, ◌++◌, drop, map}
use Rattle.hm_terms.specs.Programs.{lens_of, definition_value, program_value}
use Rattle.hm_types_rules.specs.TextNames.{text_names, body_text_names, program_text_names}
use Rattle.hm_types_terms.specs.Courses.{classes_of}
use Rattle.hm_types_terms.specs.TextTypes.{first_unknown}
use Rattle.hm_types.proofs.unknown.unknown_in.Given as goal

-- none is in the first definitions
abbrev pub invariant-loop-definition : goal.invariant-loop-definition
invariant-loop-definition l =
    first_unknown (classes_of l.texts) (body_text_names (map definition_value (drop l.definition-index l.definition-items)) ++ text_names (lens_of l.program.main))
    ≡ first_unknown (classes_of l.texts) (program_text_names (program_value l.program))
