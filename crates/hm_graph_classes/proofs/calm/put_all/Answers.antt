use Rattle.std.proofs.Common.{rules, ◌<◌, ◌≤◌, length, subst}
use Rattle.std.proofs.lemmas.List.{take_all}
use Rattle.hm_graph_classes.specs.Calm.{ArePut}
use Rattle.hm_graph_classes.proofs.CalmVertices.{put_nowhere, put_more}
use Rattle.hm_graph_classes.proofs.calm.put_all.Goals as goal

pub loop-place-init : goal.loop-place-init
loop-place-init c = put_nowhere c.args.lists.now.items c.args.number

pub loop-place-preserved : goal.loop-place-preserved
loop-place-preserved c =
    let lt : c.loop-place.place-index < length c.args.places.now = search rules in
    put_more c.args.lists.now.items c.loop-place.lists.items c.put.new.lists.items c.args.places.now c.args.number c.loop-place.place-index lt
    c.loop-place.invariant c.in_ok-put.ensures

pub returns : goal.returns
returns c =
    let end : length c.args.places.now ≤ c.loop-place.place-index = search rules in
    subst (λ ps. ArePut c.args.lists.now.items c.loop-place.lists.items ps c.args.number) (take_all c.loop-place.place-index c.args.places.now end)
    c.loop-place.invariant
