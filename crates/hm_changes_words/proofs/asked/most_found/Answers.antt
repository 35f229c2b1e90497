use Rattle.std.proofs.Common.{◌≡◌, ◌∙◌, rules, ap, Some, None}
use Rattle.std.specs.Option.{option_map}
use Rattle.clap.specs.Words.{found_of}
use Rattle.hm_changes_words.specs.Asked.{number_of}
use Rattle.hm_changes_words.proofs.Matches.{most_so}
use Rattle.hm_changes_words.proofs.asked.most_found.Goals as goal

pub returns-in_err-number_of-in-Some : goal.returns-in_err-number_of-in-Some
returns-in_err-number_of-in-Some c =
    let none : c.from_residual.result ≡ None = search rules in
    let no : None ≡ number_of c.in-Some.word.now = search rules in
    none ∙ ap (option_map Some) no ∙ most_so (found_of c.args.matches.now) (Some c.in-Some.word.now) c.in-Some.ensures

pub returns-in_ok-number_of-in-Some : goal.returns-in_ok-number_of-in-Some
returns-in_ok-number_of-in-Some c =
    let number : Some c.in_ok-number_of-in-Some.field-0 ≡ number_of c.in-Some.word.now = search rules in
    ap (option_map Some) number ∙ most_so (found_of c.args.matches.now) (Some c.in-Some.word.now) c.in-Some.ensures

pub returns-in-None : goal.returns-in-None
returns-in-None c = most_so (found_of c.args.matches.now) None c.in-None.ensures
