use Rattle.std.proofs.Common.{◌≡◌, ◌<◌, ◌++◌, ◌∷◌, [], suc, List, map, length, get_or, Some, None, refl, sym, ap, ◌∙◌, subst, arith}
use Rattle.std.proofs.lemmas.Result.{IfOk-weaker}
use Rattle.std.proofs.lemmas.List.{take_all}
use Rattle.std.specs.Borrow.{Bor}
use Rattle.std.specs.Vec.Iter.{into_iter_items}
use Rattle.hm_tree.specs.Names.{Name, name_cmp}
use Rattle.hm_tree.specs.Nodes.{Tree, depth, edges}
use Rattle.hm_book_items.specs.Items.{fresh, added}
use Rattle.hm_book_items.specs.ItemTrees.{Lists, AreLists, lists_depth}
use Rattle.hm_book_items.specs.Lent.{lent_lists}
use Rattle.hm_book_items.specs.Plans.{keys_of}
use Rattle.hm_book_items.specs.Taken.{HasTaken}
use Rattle.hm_book_items.proofs.Laws.{are_lists}
use Rattle.hm_book_items.proofs.ListDepths.{depth_tree}
use Rattle.hm_book_items.proofs.Taking.{as_many, key_at}
use Rattle.hm_marks.specs.Layouts.{items_of}
use Rattle.hm_marks.specs.Pieces.{an_item}
use Rattle.hm_marks.specs.Writing.{inside_of}
use Rattle.serde_json.specs.Data.{object, put}
use Rattle.serde_json.specs.View.{view, items_view}
use Rattle.serde_json.specs.declared.value.Value.{Value}
use Rattle.serde_json.proofs.Views.{view-Array, view-Object}
use Rattle.hm_json_nodes.specs.Nodes.{json, AreNodes, children_key}
use Rattle.hm_marks_schema.specs.Taken.{HaveTaken}
use Rattle.hm_json_nodes.specs.Anew.{item_key, item_entry, IsNodeAnew, Adds}
use Rattle.hm_json_nodes.proofs.Left.{AreLeft, left_all, first_left, left_more, all_added, all_taken, over}
use Rattle.hm_json_nodes.proofs.Spelling.{link_node, folder_node, adds_none, adds_more, adds_one, spelled_all}
use Rattle.hm_marks_schema.proofs.Taking.{tree_for, keys_more, survives, goes, good_for, most_good, deep_in, next_fresh, next_added, less_than, lists_good, known_good, good_in, fresh_more, left_good}
use Rattle.hm_json_nodes.proofs.writing.+writing.Goals as goal

-- ---- one node

pub node_anew-nodes_anew-requires : goal.node_anew-nodes_anew-requires
node_anew-nodes_anew-requires t c =
    let o = c.requires.old.0 in (
      rw (← c.decreases) (less_than c.in-Folder.inside.now c.args.tree.now (rw c.in-Folder.is at c.item_of.ensures).0),
      ((inside_of json o, c.in_ok-members-in-Folder.ensures.inside o c.requires.old.1), (rw c.in-Folder.is at c.item_of.ensures).1),
    )

pub node_anew-returns-in-Link : goal.node_anew-returns-in-Link
node_anew-returns-in-Link t c = IfOk-weaker c.link_anew.result _ _ (λ node h item old.
    let is = rw c.in-Link.is at c.item_of.ensures in
    link_node c.args.key.now c.in-Link.address.now item c.args.tree.now (view node) c.requires.key is.1 is.0 (h item old)) c.link_anew.ensures

pub node_anew-returns-in_ok-set-in-Folder : goal.node_anew-returns-in_ok-set-in-Folder
node_anew-returns-in_ok-set-in-Folder t c = λ item old.
    let is = rw c.in-Folder.is at c.item_of.ensures in
    folder_node c.args.key.now item c.in-Folder.inside.now c.args.tree.now (items_view c.in_ok-nodes-in-Folder.nodes.items) _ c.requires.key is.0
    (c.in_ok-nodes-in-Folder.ensures (inside_of json item) (c.in_ok-members-in-Folder.ensures.inside item old))
    (view-Object c.set.new.members ∙ ap object (c.in_ok-set-in-Folder.ensures
    ∙ (λ i. put children_key (view-Array c.in_ok-nodes-in-Folder.nodes i) (c.in_ok-members-in-Folder.ensures.members item old i))))

-- ---- new nodes

pub add_with_key-loop-tree-init : goal.add_with_key-loop-tree-init
add_with_key-loop-tree-init t c = adds_none c.args.new.now.items

pub add_with_key-node_anew-requires : goal.add_with_key-node_anew-requires
add_with_key-node_anew-requires t c =
    let trees = map (λ (b : Bor Tree). b.now) c.args.trees.now in
    let at = next_fresh c.args.trees.now c.loop-tree.tree-index c.tree-item.result c.loop-tree-test.true c.tree-item.is in
    let good = good_in c.requires.0 c.args.key.now trees c.loop-tree.tree-index c.tree-item.result.now at.0 at.1 c.requires.1 in (
      rw (← c.decreases) (let deep = deep_in trees c.loop-tree.tree-index c.tree-item.result.now at.0 at.1 in omega (arith, deep)),
      (good.key, (good.item, (None, tt))),
    )

pub add_with_key-loop-tree-preserved : goal.add_with_key-loop-tree-preserved
add_with_key-loop-tree-preserved t c =
    subst (Adds c.args.new.now.items c.push.new.self.items)
    (fresh_more json c.args.key.now c.args.trees.now c.loop-tree.tree-index c.tree-item.result c.loop-tree-test.true c.tree-item.is)
    (adds_more c.args.new.now.items c.loop-tree.new.items c.push.new.self.items _ _ c.loop-tree.invariant
    (adds_one c.loop-tree.new.items c.push.new.self.items c.in_ok-node.node c.args.key.now None c.tree-item.result.now c.in_ok-push.ensures.items
    (c.in_ok-node.ensures None tt)))

pub add_with_key-returns : goal.add_with_key-returns
add_with_key-returns t c =
    subst (λ (l : List (Bor Tree)). Adds c.args.new.now.items c.loop-tree.new.items (map an_item (fresh name_cmp c.args.key.now (map (λ (b : Bor Tree). b.now) l))))
    (take_all c.loop-tree.tree-index c.args.trees.now c.loop-tree-test.false) c.loop-tree.invariant

pub add_new-loop-edge-init : goal.add_new-loop-edge-init
add_new-loop-edge-init t c = λ lists before h. adds_none c.args.new.now.items

pub add_new-add_with_key-requires : goal.add_new-add_with_key-requires
add_new-add_with_key-requires t c =
    let lists = c.requires.taken.0 in
    let before = c.requires.taken.1 in
    let h = c.requires.taken.2 in
    let n = as_many c.args.trees.now lists (keys_of before) h.taken in
    let test = c.loop-edge-test.true in
    let lt : c.loop-edge.edge < length lists = omega (arith, n, test) in
    let l = get_or c.args.trees.now.lists.now c.loop-edge.edge c.index-trees-edge.result in
    let key = key_at c.args.trees.now lists (keys_of before) h.taken c.loop-edge.edge lt c.index-trees-edge.result l refl in
    let left = left_good lists before h.good c.loop-edge.edge lt (map (λ (b : Bor Tree). b.now) c.left.result.now) l.0.now key
    (c.left.ensures lists (keys_of before) h.taken) in (
      rw (← c.decreases) (let deep = most_good _ _ _ left in let whole = ap (lists_depth depth) h.taken.lists_are in omega (arith, deep, whole)),
      (suc (lists_depth depth lists), left),
    )

pub add_new-loop-edge-preserved : goal.add_new-loop-edge-preserved
add_new-loop-edge-preserved t c = λ lists before h.
    let n = as_many c.args.trees.now lists (keys_of before) h.taken in
    let test = c.loop-edge-test.true in
    let lt : c.loop-edge.edge < length lists = omega (arith, n, test) in
    let l = get_or c.args.trees.now.lists.now c.loop-edge.edge c.index-trees-edge.result in
    let key = key_at c.args.trees.now lists (keys_of before) h.taken c.loop-edge.edge lt c.index-trees-edge.result l refl in
    subst (Adds c.args.new.now.items c.add_with_key.new.new.items)
    (next_added json before lists c.loop-edge.edge lt l.0.now (map (λ (b : Bor Tree). b.now) c.left.result.now) key (c.left.ensures lists (keys_of before) h.taken))
    (adds_more c.args.new.now.items c.loop-edge.new.items c.add_with_key.new.new.items _ _ (c.loop-edge.invariant lists before h) c.in_ok-add_with_key.ensures)

pub add_new-returns : goal.add_new-returns
add_new-returns t c = λ lists before h.
    let n = as_many c.args.trees.now lists (keys_of before) h.taken in
    let test = c.loop-edge-test.false in
    subst (λ (l : Lists). Adds c.args.new.now.items c.loop-edge.new.items (map an_item (added name_cmp before l)))
    (take_all c.loop-edge.edge lists (omega (arith, n, test))) (c.loop-edge.invariant lists before h)

-- ---- nodes from before

pub add_over-node_anew-requires : goal.add_over-node_anew-requires
add_over-node_anew-requires t c =
    let item = c.requires.node.0 in
    let lists = c.requires.taken.0 in
    let before = c.requires.taken.1 in
    let h = c.requires.taken.2 in
    let good = good_for (suc (lists_depth depth lists)) lists before c.in_ok-key.key c.in-Some.tree.now h.good
    (rw c.in-Some.is at (c.in_ok-tree.ensures.tree lists (keys_of before) h.taken)) in (
      rw (← c.decreases) (let less = good.less in let whole = ap (lists_depth depth) h.taken.lists_are in omega (arith, less, whole)),
      (c.in_ok-key.ensures.clean, (good.item, (Some item, c.requires.node.1))),
    )

pub add_over-returns-in_ok-push-clause-taken : goal.add_over-returns-in_ok-push-clause-taken
add_over-returns-in_ok-push-clause-taken t c = λ lists before item h is. record {
  taken = subst (HasTaken c.next.new.self lists) (ap (λ (k : Name). keys_of before ++ k ∷ []) (c.in_ok-key.ensures.key item is) ∙ keys_more before (item_entry item))
      (c.in_ok-tree.ensures.taken lists (keys_of before) h.taken);
  good = h.good;
}

pub add_over-returns-in_ok-push-clause-adds : goal.add_over-returns-in_ok-push-clause-adds
add_over-returns-in_ok-push-clause-adds t c = λ lists before item h is.
    let key = c.in_ok-key.ensures.key item is in
    let took = subst (λ k. Some c.in-Some.tree.now ≡ tree_for lists before k) key (rw c.in-Some.is at (c.in_ok-tree.ensures.tree lists (keys_of before) h.taken)) in
    subst (Adds c.args.new.now.items c.push.new.self.items) (sym (survives json lists before (item_entry item) c.in-Some.tree.now took))
    (adds_one c.args.new.now.items c.push.new.self.items c.in_ok-node.node (item_key item) (Some item) c.in-Some.tree.now c.in_ok-push.ensures.items
    (subst (λ k. IsNodeAnew k (Some item) c.in-Some.tree.now (view c.in_ok-node.node)) key (c.in_ok-node.ensures (Some item) is)))

pub add_over-returns-in_default-clause-taken : goal.add_over-returns-in_default-clause-taken
add_over-returns-in_default-clause-taken t c = λ lists before item h is. record {
  taken = subst (HasTaken c.next.new.self lists) (ap (λ (k : Name). keys_of before ++ k ∷ []) (c.in_ok-key.ensures.key item is) ∙ keys_more before (item_entry item))
      (c.in_ok-tree.ensures.taken lists (keys_of before) h.taken);
  good = h.good;
}

pub add_over-returns-in_default-clause-adds : goal.add_over-returns-in_default-clause-adds
add_over-returns-in_default-clause-adds t c = λ lists before item h is.
    let key = c.in_ok-key.ensures.key item is in
    let none = subst (λ k. None ≡ tree_for lists before k) key (rw c.in_default.is at (c.in_ok-tree.ensures.tree lists (keys_of before) h.taken)) in
    subst (Adds c.args.new.now.items c.args.new.now.items) (sym (goes json lists before (item_entry item) none)) (adds_none c.args.new.now.items)

pub add_old-loop-node-init : goal.add_old-loop-node-init
add_old-loop-node-init t c = λ lists all h nodes.
    left_all lists all c.args.trees.now (into_iter_items c.into_iter-node-iterator.result) c.args.new.now.items h
    (subst (λ (vs : List Value). AreNodes (items_view vs) all) (sym c.into_iter-node-iterator.ensures.into_iter_gives.0) nodes)

pub add_old-add_over-requires : goal.add_old-add_over-requires
add_old-add_over-requires t c =
    let lists = c.requires.taken.0 in
    let left = subst (λ (vs : List Value). AreLeft lists c.requires.nodes.0 c.loop-node.trees vs c.args.new.now.items c.loop-node.new.items) c.in-Some.ensures.steps.0
    (c.loop-node.invariant lists c.requires.nodes.0 c.requires.taken.1 c.requires.nodes.1) in
    let first = first_left lists c.requires.nodes.0 c.loop-node.trees c.loop-node.trees c.in-Some.node (into_iter_items c.next.new.self) c.args.new.now.items c.loop-node.new.items c.loop-node.new.items left in (
      rw (← c.decreases) (let one = ap (lists_depth depth) left.have.taken.lists_are in let two = ap (lists_depth depth) c.requires.taken.1.taken.lists_are in omega (arith, one, two)),
      ((first.first, first.of), (lists, left.before, left.have)),
    )

pub add_old-loop-node-preserved : goal.add_old-loop-node-preserved
add_old-loop-node-preserved t c = λ lists all h nodes.
    let left = subst (λ (vs : List Value). AreLeft lists all c.loop-node.trees vs c.args.new.now.items c.loop-node.new.items) c.in-Some.ensures.steps.0
    (c.loop-node.invariant lists all h nodes) in
    let first = first_left lists all c.loop-node.trees c.add_over.new.trees c.in-Some.node (into_iter_items c.next.new.self) c.args.new.now.items c.loop-node.new.items c.add_over.new.new.items left in
    left_more lists all c.loop-node.trees c.add_over.new.trees c.in-Some.node (into_iter_items c.next.new.self) c.args.new.now.items c.loop-node.new.items c.add_over.new.new.items left
    (c.in_ok-add_over.ensures.taken lists left.before first.first left.have first.of)
    (c.in_ok-add_over.ensures.adds lists left.before first.first left.have first.of)

pub add_old-returns-clause-taken : goal.add_old-returns-clause-taken
add_old-returns-clause-taken t c = λ lists all h nodes.
    all_taken lists all c.loop-node.trees c.args.new.now.items c.loop-node.new.items
    (subst (λ (vs : List Value). AreLeft lists all c.loop-node.trees vs c.args.new.now.items c.loop-node.new.items) (over c.loop-node.node-iterator c.in-None.ensures.steps.0)
    (c.loop-node.invariant lists all h nodes))

pub add_old-returns-clause-adds : goal.add_old-returns-clause-adds
add_old-returns-clause-adds t c = λ lists all h nodes.
    all_added lists all c.loop-node.trees c.args.new.now.items c.loop-node.new.items
    (subst (λ (vs : List Value). AreLeft lists all c.loop-node.trees vs c.args.new.now.items c.loop-node.new.items) (over c.loop-node.node-iterator c.in-None.ensures.steps.0)
    (c.loop-node.invariant lists all h nodes))

-- ---- a folder

pub nodes_anew-item_lists-requires : goal.nodes_anew-item_lists-requires
nodes_anew-item_lists-requires t c = let good = lists_good c.args.tree.now c.requires.tree in are_lists c.args.tree.now good.lists good.below

pub nodes_anew-new-requires : goal.nodes_anew-new-requires
nodes_anew-new-requires t c =
    (known_good c.args.tree.now c.requires.tree (lent_lists c.deref.result.now)
    (subst (λ l. AreLists (edges c.args.tree.now) (lent_lists l)) (sym c.deref.ensures.value) c.in_ok-lists.ensures)).tree.sorted

pub nodes_anew-add_old-requires : goal.nodes_anew-add_old-requires
nodes_anew-add_old-requires t c =
    let lists = lent_lists c.deref.result.now in
    let below = subst (λ l. AreLists (edges c.args.tree.now) (lent_lists l)) (sym c.deref.ensures.value) c.in_ok-lists.ensures in
    let begun : HaveTaken c.in_ok-trees.trees lists [] = record { taken = c.in_ok-trees.ensures; good = (known_good c.args.tree.now c.requires.tree lists below).good } in (
      rw (← c.decreases) (let whole = ap (lists_depth depth) begun.taken.lists_are in let deep = depth_tree lists c.args.tree.now below in omega (arith, whole, deep)),
      (c.requires.nodes, (lists, begun)),
    )

pub nodes_anew-add_new-requires : goal.nodes_anew-add_new-requires
nodes_anew-add_new-requires t c =
    let lists = lent_lists c.deref.result.now in
    let below = subst (λ l. AreLists (edges c.args.tree.now) (lent_lists l)) (sym c.deref.ensures.value) c.in_ok-lists.ensures in
    let begun : HaveTaken c.in_ok-trees.trees lists [] = record { taken = c.in_ok-trees.ensures; good = (known_good c.args.tree.now c.requires.tree lists below).good } in
    let all = c.requires.nodes.0 in
    let have = c.in_ok-add_old.ensures.taken lists all begun c.requires.nodes.1 in (
      rw (← c.decreases) (let whole = ap (lists_depth depth) have.taken.lists_are in let deep = depth_tree lists c.args.tree.now below in omega (arith, whole, deep)),
      (lists, items_of json all, have),
    )

pub nodes_anew-returns : goal.nodes_anew-returns
nodes_anew-returns t c = λ all nodes.
    let lists = lent_lists c.deref.result.now in
    let below = subst (λ l. AreLists (edges c.args.tree.now) (lent_lists l)) (sym c.deref.ensures.value) c.in_ok-lists.ensures in
    let good = known_good c.args.tree.now c.requires.tree lists below in
    let begun : HaveTaken c.in_ok-trees.trees lists [] = record { taken = c.in_ok-trees.ensures; good = good.good } in
    let have = c.in_ok-add_old.ensures.taken lists all begun nodes in
    spelled_all all c.args.tree.now lists below good.tree c.in_ok-new.new.items c.add_new.new.new.items c.in_ok-new.ensures.items
    (adds_more c.in_ok-new.new.items c.add_old.new.new.items c.add_new.new.new.items _ _ (c.in_ok-add_old.ensures.adds lists all begun nodes)
    (c.in_ok-add_new.ensures lists (items_of json all) have))
