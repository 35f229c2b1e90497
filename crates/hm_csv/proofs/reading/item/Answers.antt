use Rattle.std.proofs.Common.{rules, true, ◌≡◌, [], get_or, ap, ◌∙◌}
use Rattle.csv.specs.Records.{fields_of}
use Rattle.hm_tree.specs.Cleaned.{cleaned}
use Rattle.hm_tree.specs.Classes.{is_text}
use Rattle.hm_csv.proofs.Keys.{key_filled}
use Rattle.hm_csv.proofs.reading.item.Goals as goal

pub returns : goal.returns
returns c =
    let field = get_or (fields_of c.args.row.now) c.args.key [] in
    let clean : c.in_ok-name.name ≡ cleaned field = c.in_ok-name.ensures ∙ ap cleaned c.field.ensures.field in
    let yes : is_text c.in_ok-name.name ≡ true = search rules in
    (key_filled field c.in_ok-name.name clean yes, λ i. ((c.name.view_is ∙ clean) i, c.in_ok-card_of.ensures i))
