use Rattle.std.proofs.Common.{◌∙◌, sym}
use Rattle.hm_command_line.specs.Requests.{request_value}
use Rattle.hm_run_words.proofs.Meanings.{same_names, other_names}
use Rattle.hm_run_words.proofs.meaning.with_names_apart.Goals as goal

pub returns-in-Some : goal.returns-in-Some
returns-in-Some c = same_names (request_value c.args.request) c.in-Some.one c.in-Some.two (sym c.in-Some.is ∙ c.in_ok-one.ensures)

pub returns-in-None : goal.returns-in-None
returns-in-None c = other_names (request_value c.args.request) (sym c.in-None.is ∙ c.in_ok-one.ensures)
