use Rattle.std.proofs.Common.{sym, subst}
use Rattle.hm_terms.specs.Programs.{program_value}
use Rattle.hm_types_rules.specs.TextNames.{program_text_names, IsFirstUnknown}
use Rattle.hm_types_terms.specs.Courses.{classes_of}
use Rattle.hm_types_terms.proofs.TextTypes.{all_known, is_first_unknown}
use Rattle.hm_types.proofs.unknown.check_texts.Goals as goal

pub returns-in-None-clause-known : goal.returns-in-None-clause-known
returns-in-None-clause-known c =
    all_known (classes_of c.args.texts.now) (program_text_names (program_value c.args.program.now)) (sym c.in-None.ensures)

pub returns-in_ok-copy-in-Some-clause-fault : goal.returns-in_ok-copy-in-Some-clause-fault
returns-in_ok-copy-in-Some-clause-fault c =
    subst (IsFirstUnknown (classes_of c.args.texts.now) (program_text_names (program_value c.args.program.now))) (sym c.in_ok-copy-in-Some.ensures.value)
    (is_first_unknown (classes_of c.args.texts.now) (program_text_names (program_value c.args.program.now)) c.in-Some.name.now (sym c.in-Some.ensures))
