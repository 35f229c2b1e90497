use Rattle.std.proofs.Common.{true, ◌∙◌, sym, ap}
use Rattle.hm_tree.proofs.Ascending.{ascending_is}
use Rattle.hm_csv_columns.specs.Fields.{same_names, texts_shown}
use Rattle.hm_csv_columns.proofs.SameNames.{names_in}
use Rattle.hm_csv_columns.proofs.staying.shows_many.Goals as goal

pub returns : goal.returns
returns c =
    c.same_names.ensures
    ∙ ap (λ ns. same_names ns (names_in c.args.edges.now))
    (sym (ascending_is c.names.result.now (texts_shown true c.args.field.now) c.names.ensures.ascending (c.names.ensures.same ∙ c.in_ok-texts.ensures)))
