use Rattle.std.proofs.Common.{rules, ◌<◌, ◌++◌, [], ◌∷◌, length, refl, sym, ap, ◌∙◌}
use Rattle.std.proofs.lemmas.List.{map-append}
use Rattle.std.proofs.lemmas.Option.{slice_get_read}
use Rattle.hm_tree.specs.Names.{Name}
use Rattle.hm_schema.specs.declared.node.NodeId.{NodeId}
use Rattle.hm_types_table.specs.Tables.{keys}
use Rattle.hm_types_table.proofs.Left.{left_taken, left_skipped}
use Rattle.hm_types_table.proofs.outline.children_left.Goals as goal
use Rattle.hm_types_table.proofs.outline.children_left.Goals.{then-is_left+in_ok-copy+in_ok-push, else-is_left}

pub loop-place-preserved : goal.loop-place-preserved
loop-place-preserved c =
    let all = c.args.all in
    let bs = c.args.standing.now in
    let names = c.args.names.now in
    let i = c.loop-place.place in
    let lt : i < length names = search rules in
    elim c.if-is_left.branch [
      | then-is_left+in_ok-copy+in_ok-push w ↦
          let at = slice_get_read names _ i w.index-names-place.result refl lt w.index-names-place.is in
          ap (λ v. keys v.items) w.children-is ∙ ap keys w.in_ok-push.ensures.items
          ∙ map-append (λ (e : Name × NodeId). e.0) c.loop-place.children.items ((w.in_ok-copy.field-0, record { place = 0 }) ∷ [])
          ∙ (λ t. c.loop-place.invariant t ++ w.in_ok-copy.ensures.value t ∷ [])
          ∙ sym (left_taken all bs names i c.is_left.result c.is_left.ensures c.requires lt w.index-names-place.result at w.if-is_left.true)
      | else-is_left w ↦
          ap (λ v. keys v.items) w.children-is ∙ c.loop-place.invariant
          ∙ sym (left_skipped all bs names i c.is_left.result c.is_left.ensures c.requires lt w.if-is_left.false)
    ]
