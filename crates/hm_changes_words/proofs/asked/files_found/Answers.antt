use Rattle.std.proofs.Common.{◌∙◌, ap, arith, List, map, Some, None}
use Rattle.clap.specs.Words.{found_of}
use Rattle.clap.specs.Walk.{Text}
use Rattle.hm_changes_words.proofs.Matches.{files_so, six_names, not_six_names}
use Rattle.hm_changes_words.proofs.asked.files_found.Goals as goal
use Rattle.hm_changes_words.proofs.asked.files_found.Goals.{in_default-via-in-Some+else-texts-eq6, in_default-via-in_default}

pub returns-in_ok-names_of-in-Some : goal.returns-in_ok-names_of-in-Some
returns-in_ok-names_of-in-Some c =
    ap (λ (names : List Text). Some names) c.in_ok-names_of-in-Some.ensures ∙ six_names c.in-Some.texts.now (omega arith)
    ∙ files_so (found_of c.args.matches.now) (Some (map (λ text. text.now) c.in-Some.texts.now)) c.in-Some.ensures

pub returns-in_default : goal.returns-in_default
returns-in_default c = elim c.in_default.branch [
  | in_default-via-in-Some+else-texts-eq6 w ↦
      not_six_names w.in-Some.texts.now (omega arith) ∙ files_so (found_of c.args.matches.now) (Some (map (λ text. text.now) w.in-Some.texts.now)) w.in-Some.ensures
  | in_default-via-in_default w ↦ files_so (found_of c.args.matches.now) None w.in_default.ensures
]
