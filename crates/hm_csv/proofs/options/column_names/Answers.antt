use Rattle.std.proofs.Common.{Bool, List, ◌∷◌, ◌≤◌, ◌∙◌, ap, length, map, rules}
use Rattle.std.proofs.lemmas.List.{take_all}
use Rattle.hm_tree.specs.Names.{Name}
use Rattle.hm_schema.specs.Values.{options_value}
use Rattle.hm_csv.specs.Options.{key_name}
use Rattle.hm_csv.proofs.ColumnFacts.{names_shown}
use Rattle.hm_csv.proofs.options.column_names.Goals as goal

pub returns : goal.returns
returns c =
    let o = options_value c.args.options.now in
    let end : length c.args.shown.now ≤ c.loop-column.column-index = search rules in
    let all = take_all c.loop-column.column-index c.args.shown.now end in
    c.loop-column.invariant ∙ ap (λ (s : List (Name × Bool)). key_name o ∷ map (λ s. s.0) s) (all ∙ c.requires)
    ∙ ap (λ (s : List Name). key_name o ∷ s) (names_shown o)
