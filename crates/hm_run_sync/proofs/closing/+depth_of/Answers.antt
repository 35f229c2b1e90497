use Rattle.std.proofs.Common.{sym, ap, ◌∙◌, arith, rules}
use denote.Param.Weighed.{most}
use Rattle.std.proofs.lemmas.List.{take_all}
use Rattle.std.proofs.lemmas.Option.{slice_get_within, get_or_from_slice_get}
use Rattle.hm_tree.specs.Names.{Name}
use Rattle.hm_tree.specs.Archives.{Archive, edges_here}
use Rattle.hm_run_sync.proofs.ArchiveDepths.{under_edge, depth-here, most_more, edge_bound}
use Rattle.hm_run_sync.proofs.closing.+depth_of.Goals as goal

pub overflow_sub-bound : goal.overflow_sub-bound
overflow_sub-bound t c =
    let a = edge_bound (edges_here c.args.archive.now) c.loop-place.place (c.edge.result.0.now, c.edge.result.1.now) c.edge.ensures in
    let b = depth-here c.args.archive.now in
    let r = c.requires in omega arith

pub depth_of-requires : goal.depth_of-requires
depth_of-requires t c =
    let a = edge_bound (edges_here c.args.archive.now) c.loop-place.place (c.edge.result.0.now, c.edge.result.1.now) c.edge.ensures in
    let b = depth-here c.args.archive.now in
    let r = c.requires in omega arith

pub overflow_add-depth_of : goal.overflow_add-depth_of
overflow_add-depth_of t c =
    let a = edge_bound (edges_here c.args.archive.now) c.loop-place.place (c.edge.result.0.now, c.edge.result.1.now) c.edge.ensures in
    let b = depth-here c.args.archive.now in
    let r = c.requires in
    let d = c.depth_of.ensures in omega arith

pub loop-place-preserved : goal.loop-place-preserved
loop-place-preserved t c =
    let es = edges_here c.args.archive.now in
    let e : Name × Archive = (c.edge.result.0.now, c.edge.result.1.now) in
    let a = most_more es c.loop-place.place e (slice_get_within es c.loop-place.place e c.edge.ensures) in
    let b = ap under_edge (get_or_from_slice_get es c.loop-place.place e e c.edge.ensures) in
    let d = c.depth_of.ensures in
    let i = c.loop-place.invariant in
    search rules

pub returns : goal.returns
returns t c =
    let es = edges_here c.args.archive.now in
    let all = take_all c.loop-place.place es (omega (arith, c.count-place-end.ensures)) in
    c.loop-place.invariant ∙ ap (most under_edge) all ∙ sym (depth-here c.args.archive.now)
