use Rattle.std.proofs.Common.{◌*◌, ◌<◌, suc, sym, ap, ◌∙◌, subst, arith}
use Rattle.std.proofs.lemmas.Result.{IfOk-weaker}
use Rattle.hm_tree.specs.Names.{Name}
use Rattle.hm_marks.specs.Among.{IsAmong}
use Rattle.serde_json.specs.Data.{depth, items_depth}
use Rattle.serde_json.specs.View.{view, items_view}
use Rattle.hm_json_nodes.specs.Kinds.{kind_seen}
use Rattle.hm_json_nodes.proofs.Seen.{link_seen, folder_seen, neither_seen}
use Rattle.hm_json_nodes.proofs.Deep.{children_deep, value_deep, next_value}
use Rattle.hm_json_nodes.proofs.Sought.{link_lacking, folder_lacking, inside_lacking, neither_lacking, IsLeft, past_node, more_keys}
use Rattle.hm_json_nodes.proofs.seeking.+seeking.Goals as goal

pub is_other_tree-returns-then-count-len : goal.is_other_tree-returns-then-count-len
is_other_tree-returns-then-count-len t c = λ yes. more_keys c.args.tree.now c.args.values.now.items (omega (arith, c.count.ensures, c.len.ensures, c.if-count-len.true))

pub is_other_tree-lacks_node-requires : goal.is_other_tree-lacks_node-requires
is_other_tree-lacks_node-requires t c = (
  rw (← c.decreases) (subst (λ vs. 2 * depth (view c.value-item.result) < suc (2 * items_depth (items_view vs))) c.deref-value-items.ensures.value
      (value_deep c.deref-value-items.result.now c.loop-value.value-index c.value-item.result c.loop-value-test.true c.value-item.is)),
  c.requires,
)

pub is_other_tree-returns-then-branch : goal.is_other_tree-returns-then-branch
is_other_tree-returns-then-branch t c = λ yes values are has.
    let left = subst (IsLeft c.args.tree.now) (next_value c.deref-value-items.result.now c.loop-value.value-index c.value-item.result c.loop-value-test.true c.value-item.is)
    (c.loop-value.invariant values are has) in
    c.in_ok-lacks_node.ensures c.if-branch.true left.missing _ left.contents left.are left.has

pub is_other_tree-loop-value-preserved : goal.is_other_tree-loop-value-preserved
is_other_tree-loop-value-preserved t c = λ values are has.
    past_node c.args.tree.now (view c.value-item.result) _
    (subst (IsLeft c.args.tree.now) (next_value c.deref-value-items.result.now c.loop-value.value-index c.value-item.result c.loop-value-test.true c.value-item.is)
    (c.loop-value.invariant values are has))

pub lacks_node-returns-in-Link : goal.lacks_node-returns-in-Link
lacks_node-returns-in-Link t c =
    let d = view c.args.value.now in
    let seen = link_seen d c.in-Link.name.now c.in-Link.address.now (ap kind_seen (sym c.in-Link.is) ∙ c.kind_of.ensures) in
    IfOk-weaker c.lacks_spelled.result _ _ (λ lacking h yes. link_lacking c.args.tree.now d _ _ seen (h yes)) c.lacks_spelled.ensures

pub lacks_node-returns-in-Nowhere : goal.lacks_node-returns-in-Nowhere
lacks_node-returns-in-Nowhere t c = λ yes.
    let d = view c.args.value.now in
    let children = items_view c.in-Folder.children.now.items in
    let seen = folder_seen d c.in-Folder.name.now children (ap kind_seen (sym c.in-Folder.is) ∙ c.kind_of.ensures) in
    folder_lacking c.args.tree.now d c.in-Folder.name.now children seen (λ u v tree among.
    c.in-Nowhere.ensures u v tree (subst (λ (k : Name). IsAmong k c.args.tree.now v) (sym c.in_ok-key-in-Folder.ensures.value) among))

pub lacks_node-is_other_tree-requires : goal.lacks_node-is_other_tree-requires
lacks_node-is_other_tree-requires t c =
    let d = view c.args.value.now in
    let seen = folder_seen d c.in-Folder.name.now (items_view c.in-Folder.children.now.items) (ap kind_seen (sym c.in-Folder.is) ∙ c.kind_of.ensures) in
    (rw (← c.decreases) (children_deep d _ _ seen), c.in-Only.ensures.0)

pub lacks_node-returns-in-Only : goal.lacks_node-returns-in-Only
lacks_node-returns-in-Only t c =
    let d = view c.args.value.now in
    let children = items_view c.in-Folder.children.now.items in
    let seen = folder_seen d c.in-Folder.name.now children (ap kind_seen (sym c.in-Folder.is) ∙ c.kind_of.ensures) in
    IfOk-weaker c.is_other_tree.result _ _ (λ others h yes. inside_lacking c.args.tree.now d c.in-Folder.name.now children seen c.in-Only.inside.now (λ u w tree among.
    c.in-Only.ensures.1 u w tree (subst (λ (k : Name). IsAmong k c.args.tree.now w) (sym c.in_ok-key-in-Folder.ensures.value) among)) (h yes)) c.is_other_tree.ensures

pub lacks_node-returns : goal.lacks_node-returns
lacks_node-returns t c = λ yes. neither_lacking c.args.tree.now (view c.args.value.now) (neither_seen (view c.args.value.now) (ap kind_seen (sym c.in-Neither.is) ∙ c.kind_of.ensures))
