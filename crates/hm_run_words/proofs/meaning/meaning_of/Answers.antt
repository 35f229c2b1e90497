use Rattle.std.proofs.Common.{◌∙◌, ap, sym}
use Rattle.std.specs.Option.{option_map}
use Rattle.hm_command_line.specs.Requests.{request_value}
use Rattle.hm_run_words.proofs.Formed.{all_formed}
use Rattle.hm_run_words.proofs.Meanings.{no_meaning, meant}
use Rattle.hm_run_words.proofs.meaning.meaning_of.Goals as goal

pub returns-in-Some-clause-means : goal.returns-in-Some-clause-means
returns-in-Some-clause-means c =
    meant request_value c.args.words.now (request_value c.in-Some.request) (sym (ap (option_map request_value) c.in-Some.is) ∙ c.in_ok-request.ensures)
    c.with_names_apart.result c.with_names_apart.ensures

pub returns-in-None-clause-means : goal.returns-in-None-clause-means
returns-in-None-clause-means c = no_meaning c.args.words.now (sym (ap (option_map request_value) c.in-None.is) ∙ c.in_ok-request.ensures)

pub returns-in-Some-clause-files : goal.returns-in-Some-clause-files
returns-in-Some-clause-files c =
    all_formed c.args.words.now c.with_names_apart.result
    (meant request_value c.args.words.now (request_value c.in-Some.request) (sym (ap (option_map request_value) c.in-Some.is) ∙ c.in_ok-request.ensures)
    c.with_names_apart.result c.with_names_apart.ensures)
