use Rattle.std.proofs.Common.{◌++◌, ◌∷◌, [], ap, ◌∙◌}
use Rattle.hm_types_views.proofs.OneName.{plunged_seated, plunge_goes}
use Rattle.hm_types_views.proofs.plunging.plunged.Goals as goal

pub add-requires-clause-well : goal.add-requires-clause-well
add-requires-clause-well c =
    let k = c.in_ok-kind in
    plunged_seated c.args.table.now c.args.id c.requires c.args.name.now k.kind c.push.new.self.items k.ensures.shapes k.ensures.names k.ensures.twins
    (c.in_ok-push.ensures.items ∙ ap (λ l. l ++ c.args.id ∷ []) c.new-next.ensures.items)

pub returns-clause-goes : goal.returns-clause-goes
returns-clause-goes c =
    let k = c.in_ok-kind in
    plunge_goes c.args.table.now c.args.id c.requires c.args.name.now k.kind c.push.new.self.items k.ensures.shapes k.ensures.names k.ensures.twins
    (c.in_ok-push.ensures.items ∙ ap (λ l. l ++ c.args.id ∷ []) c.new-next.ensures.items) c.add.new.self c.at.ensures.formed c.in_ok-add.ensures.node
    c.in_ok-add.field-0 c.in_ok-add.ensures.place
