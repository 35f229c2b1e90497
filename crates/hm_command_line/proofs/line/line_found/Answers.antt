use Rattle.std.proofs.Common.{◌≡◌, ◌∙◌, ap, ap₂, List, map, Some, None, Bool}
use Rattle.clap.specs.Words.{found_of}
use Rattle.clap.specs.Walk.{Text}
use Rattle.hm_command_line.proofs.Matches.{flag_so, words_so}
use Rattle.hm_command_line.proofs.line.line_found.Goals as goal
use Rattle.hm_command_line.proofs.line.line_found.Goals.{in-Some+in_ok-words-in-Some, in-None}

pub returns : goal.returns
returns c = λ said says.
    let f = found_of c.args.matches.now in
    let quiet : c.get_flag.result ≡ said.quiet = flag_so f said.quiet c.get_flag.result says.quiet c.get_flag.ensures.value c.get_flag.ensures.other in
    let words : c.match-get_strs.words.items ≡ said.words = elim c.match-get_strs.branch [
      | in-Some+in_ok-words-in-Some w ↦
          ap (λ v. v.items) w.words-is ∙ w.in_ok-words-in-Some.ensures
          ∙ words_so f (Some (map (λ text. text.now) w.in-Some.texts.now)) w.in-Some.ensures ∙ says.words
      | in-None w ↦ ap (λ v. v.items) w.words-is ∙ w.new-words.ensures.items ∙ words_so f None w.in-None.ensures ∙ says.words
    ] in
    ap₂ (λ (q : Bool) (ws : List Text). record { quiet = q; words = ws }) quiet words
