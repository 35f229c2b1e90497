use Rattle.std.proofs.Common.{rules, ◌≡◌, length, slice_get, Some, sym, ap, subst, ◌∙◌}
use Rattle.hm_types_table.specs.Tables.{seat}
use Rattle.hm_types_table.specs.Classes.{IsOutline, AreOutlines, kind_label}
use Rattle.hm_types_table.proofs.Classed.{seated_label}
use Rattle.hm_types_table.proofs.NodeGraphs.{outlines_more}
use Rattle.hm_types_table.proofs.graph.outlines_of.Goals as goal

pub loop-place-preserved : goal.loop-place-preserved
loop-place-preserved c =
    let nodes = c.args.nodes.now in
    let k = c.at.result.0.now in
    let v = c.at.result.1.now in
    let outlines = c.loop-place.outlines.items in
    let o = c.in_ok-outline_of.field-0 in
    let known = c.outline_of.new.numbers in
    let at : slice_get nodes (length outlines) ≡ Some (seat k v) = ap (slice_get nodes) c.loop-place.invariant.size ∙ c.at.ensures.node in
    let label = seated_label k v.next.items v.other c.at.ensures.count in
    let told = subst (λ class. IsOutline known (kind_label k class) o) c.class_of.ensures c.in_ok-outline_of.ensures.outline in
    record {
      size = search rules;
      outlines = subst (AreOutlines known nodes) (sym c.in_ok-push.ensures.items)
          (outlines_more c.loop-place.numbers known nodes outlines o (seat k v) c.loop-place.invariant.outlines c.in_ok-outline_of.ensures.stays at
          (subst (λ l. IsOutline known l o) (sym label) told));
      numbering = c.in_ok-outline_of.ensures.numbering;
    }
