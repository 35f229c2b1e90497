use Rattle.std.proofs.Common.{rules, ◌≡◌, ◌+◌, length, sym, subst}
use Rattle.hm_graph_classes.specs.Partitions.{IsRefining}
use Rattle.hm_graph_classes.proofs.Rounds.{round_begins, round_more, round_ends}
use Rattle.hm_graph_classes.proofs.partition.refined.Goals as goal

pub loop-i-init : goal.loop-i-init
loop-i-init c = round_begins c.args.graph.now c.args.now.now c.in_ok-next.next.items c.new-known.result c.in_ok-next.ensures.items c.new-known.ensures.empty

pub loop-i-preserved : goal.loop-i-preserved
loop-i-preserved c =
    let g = c.args.graph.now in
    let old = c.args.now.now in
    subst (λ new. IsRefining g old new (c.loop-i.i + 1) c.first.new.known) (sym c.in_ok-push.ensures.items)
    (round_more g old c.loop-i.next.items c.loop-i.i c.loop-i.known c.first.new.known c.loop-i.invariant c.in_ok-key.key c.in_ok-key.ensures
    c.in_ok-first.field-0 c.in_ok-first.ensures.first c.in_ok-first.ensures.known)

pub returns : goal.returns
returns c =
    let end : c.loop-i.i ≡ length c.args.graph.now = search rules in
    round_ends c.args.graph.now c.args.now.now c.loop-i.next.items c.loop-i.i c.loop-i.known c.loop-i.invariant end
