use Rattle.std.proofs.Common.{◌≡◌, ◌+◌, length, sym, subst, ◌∙◌, rules}
use Rattle.hm_graph_classes.specs.Apart.{IsRenumbering}
use Rattle.hm_graph_classes.proofs.TakenApart.{renumbering_begins, renumbering_moved, renumbering_ends}
use Rattle.hm_graph_classes.proofs.apart.renumbered.Goals as goal

pub loop-i-init : goal.loop-i-init
loop-i-init c =
    renumbering_begins c.args.graph.now c.args.calm.now c.args.now.now c.in_ok-next.next.items c.new-known.result c.in_ok-next.ensures.items

pub loop-i-preserved : goal.loop-i-preserved
loop-i-preserved c =
    let g = c.args.graph.now in
    let calm = c.args.calm.now in
    let old = c.args.now.now in
    subst (λ new. IsRenumbering g calm old new (c.loop-i.i + 1) c.numbered.new.known) (sym c.in_ok-push-2.ensures.items)
    (renumbering_moved g calm old c.loop-i.next.items c.loop-i.i c.loop-i.known c.loop-i.invariant c.in_ok-number.number
    (sym c.is_calm.ensures ∙ c.if-is_calm.false) c.numbered.new.known c.in_ok-number.ensures)

pub returns : goal.returns
returns c =
    let end : c.loop-i.i ≡ length c.args.graph.now = search rules in
    renumbering_ends c.args.graph.now c.args.calm.now c.args.now.now c.loop-i.next.items c.loop-i.i c.loop-i.known c.loop-i.invariant end
