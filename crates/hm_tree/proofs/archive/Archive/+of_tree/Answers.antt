use Rattle.std.proofs.Common.{map, ap, ◌∙◌, arith}
use Rattle.std.proofs.lemmas.List.{take_all}
use Rattle.hm_tree.specs.Nodes.{edges}
use Rattle.hm_tree.proofs.Kept.{record_edge, recorded_kept, recorded_view, more_recorded}
use Rattle.hm_tree.proofs.archive.Archive.+of_tree.Goals as goal

pub loop-place-preserved : goal.loop-place-preserved
loop-place-preserved t c =
    c.in_ok-push.ensures.items ∙ rw (c.loop-place.invariant, c.in_ok-name.ensures.value, c.in_ok-child.ensures)
    (more_recorded c.args.tree.now c.loop-place.place c.edge.result.0.now c.edge.result.1.now c.edge.ensures)

pub invariant_of-result : goal.invariant_of-result
invariant_of-result t c =
    let all = take_all c.loop-place.place (edges c.args.tree.now) (omega (arith, c.count-place-end.ensures)) in
    recorded_kept c.args.tree.now _ (c.loop-place.invariant ∙ ap (map record_edge) all)

pub returns : goal.returns
returns t c =
    let all = take_all c.loop-place.place (edges c.args.tree.now) (omega (arith, c.count-place-end.ensures)) in
    recorded_view c.args.tree.now _ (c.loop-place.invariant ∙ ap (map record_edge) all)
