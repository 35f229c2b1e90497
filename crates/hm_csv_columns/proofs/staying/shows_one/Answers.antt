use Rattle.std.proofs.Common.{◌∷◌, [], cond, ◌∙◌, ap}
use Rattle.hm_tree.specs.Names.{Name}
use Rattle.hm_tree.specs.Classes.{is_text}
use Rattle.hm_csv_columns.specs.Fields.{same_names}
use Rattle.hm_csv_columns.proofs.SameNames.{names_in, one_shown}
use Rattle.hm_csv_columns.proofs.staying.shows_one.Goals as goal

pub returns : goal.returns
returns c =
    c.same_names.ensures
    ∙ ap (λ ns. same_names ns (names_in c.args.edges.now))
    (c.as_texts.ensures ∙ ap (λ (t : Name). cond (is_text t) (t ∷ []) []) c.in_ok-text.ensures ∙ one_shown c.args.field.now)
