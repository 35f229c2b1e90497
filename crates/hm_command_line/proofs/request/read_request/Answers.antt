use Rattle.std.proofs.Common.{◌∙◌, ap, sym, Some, None}
use Rattle.std.specs.Option.{option_map}
use Rattle.hm_command_line.specs.Words.{line_value}
use Rattle.hm_command_line.specs.Requests.{asked_value}
use Rattle.hm_command_line.proofs.Asking.{asks, asks_nothing}
use Rattle.hm_command_line.proofs.request.read_request.Goals as goal

pub returns-in_default : goal.returns-in_default
returns-in_default c = asks_nothing c.args.words.now (sym (ap (option_map line_value) c.in_default.is) ∙ c.in_ok-line.ensures)

pub returns-in-Some-asked_in : goal.returns-in-Some-asked_in
returns-in-Some-asked_in c =
    asks c.args.words.now (line_value c.in-Some.line) (Some (asked_value (c.in-Some-asked_in.command, c.in-Some-asked_in.files)))
    (sym (ap (option_map line_value) c.in-Some.is) ∙ c.in_ok-line.ensures) c.in-Some-asked_in.ensures

pub returns-in-None : goal.returns-in-None
returns-in-None c =
    asks c.args.words.now (line_value c.in-Some.line) None (sym (ap (option_map line_value) c.in-Some.is) ∙ c.in_ok-line.ensures) c.in-None.ensures
