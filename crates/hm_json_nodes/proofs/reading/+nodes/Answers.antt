use Rattle.std.proofs.Common.{◌≡◌, suc, ◌+◌, ◌*◌, ◌<◌, ◌++◌, ◌∷◌, [], List, drop, sym, ap, ◌∙◌, subst, append-nil, append_assoc}
use Rattle.hm_marks_trees.specs.declared.node.Node.{Node}
use Rattle.serde_json.specs.Data.{item, no_items, depth, items_depth}
use Rattle.serde_json.specs.View.{view, items_view}
use Rattle.hm_json_nodes.specs.Reading.{AreRead, IsMisfit}
use Rattle.hm_json_nodes.specs.Numbers.{listed}
use Rattle.hm_json_nodes.specs.Kinds.{kind_seen}
use Rattle.hm_json_nodes.proofs.Seen.{link_seen, folder_seen, neither_seen}
use Rattle.hm_json_nodes.proofs.Deep.{children_deep, value_deep, next_value, no_more}
use Rattle.hm_json_nodes.proofs.ReadNodes.{none_read, link_read, folder_read, read_more, misfit_here, misfit_inside, misfit_first, misfit_later}
use Rattle.hm_json_nodes.proofs.reading.+nodes.Goals as goal

pub node_of-nodes_of-requires : goal.node_of-nodes_of-requires
node_of-nodes_of-requires t c =
    let d = view c.args.value.now in
    let seen = folder_seen d c.in-Folder.name.now (items_view c.in-Folder.children.now.items) (ap kind_seen (sym c.in-Folder.is) ∙ c.kind_of.ensures) in
    (rw (← c.decreases) (children_deep d _ _ seen), tt)

pub node_of-returns-in_err-inside-in-Folder-clause-misfit : goal.node_of-returns-in_err-inside-in-Folder-clause-misfit
node_of-returns-in_err-inside-in-Folder-clause-misfit t c = λ number is.
    let d = view c.args.value.now in
    let children = items_view c.in-Folder.children.now.items in
    let seen = folder_seen d c.in-Folder.name.now children (ap kind_seen (sym c.in-Folder.is) ∙ c.kind_of.ensures) in
    let came = rw is at c.from_residual-in_err-inside-in-Folder.ensures.1 in
    misfit_inside d _ children c.args.count.now number seen
    (subst (λ n. IsMisfit (listed children) n number) c.in_ok-count_one.ensures (c.in_err-inside-in-Folder.ensures.misfit number cc))

pub node_of-returns-in_ok-link-in-Link-clause-node : goal.node_of-returns-in_ok-link-in-Link-clause-node
node_of-returns-in_ok-link-in-Link-clause-node t c =
    let d = view c.args.value.now in
    let seen = link_seen d c.in-Link.name.now c.in-Link.address.now (ap kind_seen (sym c.in-Link.is) ∙ c.kind_of.ensures) in
    subst (λ node. AreRead (item d no_items) c.args.count.now c.count_one.new.count (node ∷ [])) (sym c.in_ok-link-in-Link.ensures)
    (link_read d _ _ c.args.count.now c.count_one.new.count seen c.in_ok-count_one.ensures)

pub node_of-returns-in_ok-folder-in-Folder-clause-node : goal.node_of-returns-in_ok-folder-in-Folder-clause-node
node_of-returns-in_ok-folder-in-Folder-clause-node t c =
    let d = view c.args.value.now in
    let children = items_view c.in-Folder.children.now.items in
    let seen = folder_seen d c.in-Folder.name.now children (ap kind_seen (sym c.in-Folder.is) ∙ c.kind_of.ensures) in
    subst (λ node. AreRead (item d no_items) c.args.count.now c.nodes_of.new.count (node ∷ [])) (sym c.in_ok-folder-in-Folder.ensures)
    (folder_read d _ children c.args.count.now c.nodes_of.new.count c.in_ok-inside-in-Folder.inside seen
    (subst (λ n. AreRead children n c.nodes_of.new.count c.in_ok-inside-in-Folder.inside.items) c.in_ok-count_one.ensures c.in_ok-inside-in-Folder.ensures.nodes))

pub node_of-returns-in-Neither-clause-misfit : goal.node_of-returns-in-Neither-clause-misfit
node_of-returns-in-Neither-clause-misfit t c = λ number is.
    let d = view c.args.value.now in
    let seen = neither_seen d (ap kind_seen (sym c.in-Neither.is) ∙ c.kind_of.ensures) in
    let same : c.count_one.new.count ≡ number = cc in
    subst (λ n. IsMisfit (listed (item d no_items)) c.args.count.now n) (sym c.in_ok-count_one.ensures ∙ same) (misfit_here d c.args.count.now seen)

pub nodes_of-loop-value-init : goal.nodes_of-loop-value-init
nodes_of-loop-value-init t c = (
  λ more to h.
      subst (λ (made : List Node). AreRead (items_view c.args.values.now.items) c.args.count.now to (made ++ more)) (sym c.in_ok-nodes.ensures.items)
      (subst (λ vs. AreRead (items_view vs) c.args.count.now to more) c.deref-value-items.ensures.value h),
  λ number h. subst (λ vs. IsMisfit (listed (items_view vs)) c.args.count.now number) c.deref-value-items.ensures.value h,
)

pub nodes_of-node_of-requires : goal.nodes_of-node_of-requires
nodes_of-node_of-requires t c = (
  rw (← c.decreases) (subst (λ vs. 2 * depth (view c.value-item.result) < suc (2 * items_depth (items_view vs))) c.deref-value-items.ensures.value
      (value_deep c.deref-value-items.result.now c.loop-value.value-index c.value-item.result c.loop-value-test.true c.value-item.is)),
  tt,
)

pub nodes_of-returns-in_err-node-clause-misfit : goal.nodes_of-returns-in_err-node-clause-misfit
nodes_of-returns-in_err-node-clause-misfit t c = λ number is.
    let came = rw is at c.from_residual-in_err-node.ensures.1 in
    let d = view c.value-item.result in
    let rest = items_view (drop (c.loop-value.value-index + 1) c.deref-value-items.result.now) in
    c.loop-value.invariant.1 number
    (subst (λ ds. IsMisfit (listed ds) c.loop-value.count number) (sym (next_value c.deref-value-items.result.now c.loop-value.value-index c.value-item.result c.loop-value-test.true c.value-item.is))
    (misfit_first d rest c.loop-value.count number (c.in_err-node.ensures.misfit number cc)))

pub nodes_of-loop-value-preserved : goal.nodes_of-loop-value-preserved
nodes_of-loop-value-preserved t c =
    let d = view c.value-item.result in
    let rest = items_view (drop (c.loop-value.value-index + 1) c.deref-value-items.result.now) in
    let next = next_value c.deref-value-items.result.now c.loop-value.value-index c.value-item.result c.loop-value-test.true c.value-item.is in (
      λ more to h.
          subst (λ made. AreRead (items_view c.args.values.now.items) c.args.count.now to made)
          (sym (append_assoc c.loop-value.nodes.items (c.in_ok-node.node ∷ []) more) ∙ ap (λ (l : List Node). l ++ more) (sym c.in_ok-push.ensures.items))
          (c.loop-value.invariant.0 (c.in_ok-node.node ∷ more) to
          (subst (λ ds. AreRead ds c.loop-value.count to (c.in_ok-node.node ∷ more)) (sym next)
          (read_more d rest c.loop-value.count c.node_of.new.count to c.in_ok-node.node more c.in_ok-node.ensures.node h))),
      λ number h.
          c.loop-value.invariant.1 number
          (subst (λ ds. IsMisfit (listed ds) c.loop-value.count number) (sym next)
          (misfit_later d rest c.loop-value.count c.node_of.new.count number c.in_ok-node.node c.in_ok-node.ensures.node h)),
    )

pub nodes_of-returns-clause-nodes : goal.nodes_of-returns-clause-nodes
nodes_of-returns-clause-nodes t c =
    subst (λ made. AreRead (items_view c.args.values.now.items) c.args.count.now c.loop-value.count made) (append-nil c.loop-value.nodes.items)
    (c.loop-value.invariant.0 [] c.loop-value.count
    (subst (λ vs. AreRead vs c.loop-value.count c.loop-value.count []) (no_more c.deref-value-items.result.now c.loop-value.value-index c.loop-value-test.false) (none_read c.loop-value.count)))
