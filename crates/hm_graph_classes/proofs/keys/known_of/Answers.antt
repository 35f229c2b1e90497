use Rattle.std.proofs.Common.{rules, ◌≡◌, ◌<◌, length, slice_get, Some, refl, sym}
use Rattle.std.proofs.lemmas.List.Elements.{same_from_all_zip}
use Rattle.std.proofs.lemmas.Option.{slice_get_read}
use Rattle.hm_graph_classes.proofs.Indexes.{known_next}
use Rattle.hm_graph_classes.proofs.keys.known_of.Goals as goal

pub loop-i-preserved : goal.loop-i-preserved
loop-i-preserved c =
    let g = c.args.vertices.now in
    let i = c.loop-i.i in
    let v = c.index-vertices-i.result in
    let lt : i < length g = search rules in
    let at : slice_get g i ≡ Some v = slice_get_read g _ i v refl lt c.index-vertices-i.is in
    let copied : c.in_ok-clone.field-0.items ≡ v.next.items =
    same_from_all_zip _ v.next.items c.in_ok-clone.field-0.items c.in_ok-clone.ensures.cases.0 (λ x y e. e) in
    known_next g c.requires i v at c.loop-i.known c.insert.new.self (v.label, c.in_ok-clone.field-0) refl (sym copied) c.loop-i.invariant
    c.in_ok-insert.ensures.updates
