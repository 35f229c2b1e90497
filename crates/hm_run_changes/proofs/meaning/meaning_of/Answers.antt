use Rattle.std.proofs.Common.{◌∙◌, ap, sym, refl, rules}
use Rattle.std.specs.Option.{option_map}
use Rattle.hm_changes_words.specs.Asked.{asked_value}
use Rattle.hm_run_changes.proofs.Meanings.{no_meaning, stops_apart, answers_apart, plan_apart}
use Rattle.hm_run_changes.proofs.meaning.meaning_of.Goals as goal

pub returns-in_default-clause-means : goal.returns-in_default-clause-means
returns-in_default-clause-means c = no_meaning c.args.words.now (sym (ap (option_map asked_value) c.in_default.is) ∙ c.in_ok-asked.ensures)

pub returns-in_err-with_names_apart-clause-means : goal.returns-in_err-with_names_apart-clause-means
returns-in_err-with_names_apart-clause-means c =
    stops_apart c.args.words.now (asked_value c.in-Some.asked) (sym (ap (option_map asked_value) c.in-Some.is) ∙ c.in_ok-asked.ensures)
    c.in_err-with_names_apart.field-0.0 c.in_err-with_names_apart.ensures _ (search rules)

pub returns-clause-means : goal.returns-clause-means
returns-clause-means c =
    answers_apart c.args.words.now (asked_value c.in-Some.asked) (sym (ap (option_map asked_value) c.in-Some.is) ∙ c.in_ok-asked.ensures)
    c.in_ok-with_names_apart.field-0 c.in_ok-with_names_apart.ensures c.in-Some.asked.most refl

pub returns-clause-plan : goal.returns-clause-plan
returns-clause-plan c =
    plan_apart c.args.words.now (asked_value c.in-Some.asked) (sym (ap (option_map asked_value) c.in-Some.is) ∙ c.in_ok-asked.ensures)
    c.in_ok-with_names_apart.field-0 c.in_ok-with_names_apart.ensures
