use Rattle.std.proofs.Common.{◌≡◌, ◌<◌, ◌++◌, ◌∷◌, [], suc, List, map, length, get_or, Some, None, refl, sym, ap, subst, arith}
use Rattle.std.proofs.lemmas.Result.{IfOk-weaker, on_ok_weaker}
use Rattle.std.proofs.lemmas.List.{take_all}
use Rattle.std.specs.Borrow.{Bor}
use Rattle.hm_tree.specs.Names.{Name, name_cmp}
use Rattle.hm_tree.specs.Nodes.{Tree, depth, edges}
use Rattle.hm_book_items.specs.Items.{fresh, added}
use Rattle.hm_book_items.specs.ItemTrees.{Lists, AreLists, lists_depth}
use Rattle.hm_book_items.specs.Lent.{lent_lists}
use Rattle.hm_book_items.specs.Plans.{keys_of}
use Rattle.hm_book_items.proofs.Laws.{are_lists}
use Rattle.hm_book_items.proofs.ListDepths.{depth_tree}
use Rattle.hm_book_items.proofs.Taking.{as_many, key_at}
use Rattle.hm_marks.specs.Contents.{nothing, link, a_link, a_folder}
use Rattle.hm_marks.specs.Layouts.{items_of}
use Rattle.hm_marks.specs.Pieces.{an_item}
use Rattle.hm_marks_schema.proofs.Taking.{tree_for, most_good, deep_in, next_fresh, next_added, less_than, lists_good, good_in, fresh_more, left_good}
use Rattle.hm_marks_tokens.specs.Symbols as symbols
use Rattle.hm_marks_tokens.specs.Grammar.{contents_symbols}
use Rattle.hm_netscape_entries.specs.Entries.{html}
use Rattle.hm_netscape_entries.specs.Next.{entry_seen}
use Rattle.hm_netscape_lines.specs.Behind.{seen, StandBehind}
use Rattle.hm_netscape_writing.specs.Added.{Adds, AddsFolder}
use Rattle.hm_netscape_writing.proofs.Empty.{empty_left, in_empty, empty_utf8}
use Rattle.hm_netscape_writing.proofs.Rooms.{begun_room, tree_of_lists, have_more, took, room_below, falls_below, stays_as, goes_away, not_end}
use Rattle.hm_netscape_writing.proofs.Staying.{adds_none, adds_more, adds_link, adds_folder, whole_folder, all_added, past_none, past_more, past_all, past_link, past_separator, folder_next, past_folder}
use Rattle.hm_netscape_writing.proofs.folders.+folders.Goals as goal

-- ---- a folder

pub add_folder-item_lists-requires : goal.add_folder-item_lists-requires
add_folder-item_lists-requires t c = let good = lists_good c.args.tree.now c.requires.tree in are_lists c.args.tree.now good.lists good.below

pub add_folder-new-requires : goal.add_folder-new-requires
add_folder-new-requires t c =
    (tree_of_lists c.args.tree.now (lent_lists c.deref.result.now) c.requires.tree
    (subst (λ l. AreLists (edges c.args.tree.now) (lent_lists l)) (sym c.deref.ensures.value) c.in_ok-lists.ensures)).sorted

pub add_folder-add_old-requires : goal.add_folder-add_old-requires
add_folder-add_old-requires t c =
    let lists = lent_lists c.deref.result.now in
    let below = subst (λ l. AreLists (edges c.args.tree.now) (lent_lists l)) (sym c.deref.ensures.value) c.in_ok-lists.ensures in
    let begun = begun_room c.args.level c.args.tree.now c.in_ok-trees.trees lists c.requires.tree below c.in_ok-trees.ensures c.requires.room in (
      rw (← c.decreases) (let whole = ap (lists_depth depth) begun.have.taken.lists_are in let deep = depth_tree lists c.args.tree.now below in omega (arith, whole, deep)),
      (c.requires.folder, (c.requires.utf8, (lists, [], begun))),
    )

pub add_folder-add_new-requires : goal.add_folder-add_new-requires
add_folder-add_new-requires t c =
    let lists = lent_lists c.deref.result.now in
    let below = subst (λ l. AreLists (edges c.args.tree.now) (lent_lists l)) (sym c.deref.ensures.value) c.in_ok-lists.ensures in
    let begun = begun_room c.args.level c.args.tree.now c.in_ok-trees.trees lists c.requires.tree below c.in_ok-trees.ensures c.requires.room in
    let r = c.requires.folder in
    let stay = c.in_ok-behind.ensures.stays lists [] r.0 r.1.0 r.1.1.0 begun r.1.1.1 in (
      rw (← c.decreases) (let whole = ap (lists_depth depth) stay.0.have.have.taken.lists_are in let deep = depth_tree lists c.args.tree.now below in omega (arith, whole, deep)),
      (lists, items_of html r.0, stay.0.have),
    )

pub add_folder-returns-clause-anew : goal.add_folder-returns-clause-anew
add_folder-returns-clause-anew t c = λ all more rest left.
    let lists = lent_lists c.deref.result.now in
    let below = subst (λ l. AreLists (edges c.args.tree.now) (lent_lists l)) (sym c.deref.ensures.value) c.in_ok-lists.ensures in
    let begun = begun_room c.args.level c.args.tree.now c.in_ok-trees.trees lists c.requires.tree below c.in_ok-trees.ensures c.requires.room in
    let stay = c.in_ok-behind.ensures.stays lists [] all more rest begun left in (
      all_added c.args.level c.args.out.now.items c.add_old.new.out.items c.add_new.new.out.items all c.args.tree.now lists below
          (tree_of_lists c.args.tree.now lists c.requires.tree below) stay.0.adds (c.in_ok-add_new.ensures lists (items_of html all) stay.0.have),
      stay.1,
    )

pub add_kept_folder-returns-clause-anew : goal.add_kept_folder-returns-clause-anew
add_kept_folder-returns-clause-anew t c = λ all more rest left.
    let inner = c.in_ok-behind.ensures.anew all more rest left in (
      whole_folder c.args.level c.args.out.now.items c.add_heading.new.out.items c.add_folder.new.out.items c.add_end.new.out.items (seen c.args.entry) all c.args.tree.now
          c.in_ok-add_heading.ensures inner.0 c.in_ok-add_end.ensures,
      inner.1,
    )

pub add_new_folder-add_folder-requires : goal.add_new_folder-add_folder-requires
add_new_folder-add_folder-requires t c = (rw (← c.decreases) (omega arith), (in_empty, (empty_utf8, (c.requires.tree, c.requires.room))))

pub add_new_folder-returns : goal.add_new_folder-returns
add_new_folder-returns t c =
    on_ok_weaker c.add_end.result (λ end.
    whole_folder c.args.level c.args.out.now.items c.add_new_heading.new.out.items c.add_folder.new.out.items c.add_end.new.out.items (html.new_folder c.args.key.now)
    nothing c.args.tree.now c.in_ok-add_new_heading.ensures (c.in_ok-add_folder.ensures.anew nothing [] [] empty_left).0 end) c.add_end.ensures

-- ---- new items

pub add_new_item-add_new_folder-requires : goal.add_new_item-add_new_folder-requires
add_new_item-add_new_folder-requires t c =
    let is = rw c.in-Folder.is at c.item_of.ensures in
    let less = less_than c.in-Folder.inside.now c.args.tree.now is.0 in (
      rw (← c.decreases) (omega (arith, less)),
      (is.1, omega (arith, less, c.requires.room)),
    )

pub add_new_item-returns-in-Link : goal.add_new_item-returns-in-Link
add_new_item-returns-in-Link t c =
    on_ok_weaker c.add_new_link.result (λ lines.
    let is = rw c.in-Link.is at c.item_of.ensures in
    adds_link c.args.level c.args.out.now.items c.add_new_link.new.out.items c.args.key.now c.in-Link.address.now None c.args.tree.now c.requires.key is.1 is.0 lines)
    c.add_new_link.ensures

pub add_new_item-returns-in-Folder : goal.add_new_item-returns-in-Folder
add_new_item-returns-in-Folder t c =
    on_ok_weaker c.add_new_folder.result (λ adds.
    let is = rw c.in-Folder.is at c.item_of.ensures in
    adds_folder c.args.level c.args.out.now.items c.add_new_folder.new.out.items c.args.key.now None c.in-Folder.inside.now c.args.tree.now c.requires.key is.0 adds)
    c.add_new_folder.ensures

pub add_with_key-loop-tree-init : goal.add_with_key-loop-tree-init
add_with_key-loop-tree-init t c = adds_none c.args.level c.args.out.now.items

pub add_with_key-add_new_item-requires : goal.add_with_key-add_new_item-requires
add_with_key-add_new_item-requires t c =
    let trees = map (λ (b : Bor Tree). b.now) c.args.trees.now in
    let at = next_fresh c.args.trees.now c.loop-tree.tree-index c.tree-item.result c.loop-tree-test.true c.tree-item.is in
    let good = good_in (suc c.requires.0) c.args.key.now trees c.loop-tree.tree-index c.tree-item.result.now at.0 at.1 c.requires.2 in (
      rw (← c.decreases) (let deep = deep_in trees c.loop-tree.tree-index c.tree-item.result.now at.0 at.1 in omega (arith, deep)),
      (good.key, (good.item, let less = good.less in let room = c.requires.1 in omega (arith, less, room))),
    )

pub add_with_key-loop-tree-preserved : goal.add_with_key-loop-tree-preserved
add_with_key-loop-tree-preserved t c =
    subst (Adds c.args.level c.args.out.now.items c.add_new_item.new.out.items)
    (fresh_more html c.args.key.now c.args.trees.now c.loop-tree.tree-index c.tree-item.result c.loop-tree-test.true c.tree-item.is)
    (adds_more c.args.level c.args.out.now.items c.loop-tree.out.items c.add_new_item.new.out.items _ _ c.loop-tree.invariant c.in_ok-add_new_item.ensures)

pub add_with_key-returns : goal.add_with_key-returns
add_with_key-returns t c =
    subst (λ (l : List (Bor Tree)). Adds c.args.level c.args.out.now.items c.loop-tree.out.items (map an_item (fresh name_cmp c.args.key.now (map (λ (b : Bor Tree). b.now) l))))
    (take_all c.loop-tree.tree-index c.args.trees.now c.loop-tree-test.false) c.loop-tree.invariant

pub add_new-loop-edge-init : goal.add_new-loop-edge-init
add_new-loop-edge-init t c = λ lists before h. adds_none c.args.level c.args.out.now.items

pub add_new-add_with_key-requires : goal.add_new-add_with_key-requires
add_new-add_with_key-requires t c =
    let lists = c.requires.room.0 in
    let before = c.requires.room.1 in
    let h = c.requires.room.2 in
    let taken = h.have.taken in
    let n = as_many c.args.trees.now lists (keys_of before) taken in
    let test = c.loop-edge-test.true in
    let lt : c.loop-edge.edge < length lists = omega (arith, n, test) in
    let l = get_or c.args.trees.now.lists.now c.loop-edge.edge c.index-trees-edge.result in
    let key = key_at c.args.trees.now lists (keys_of before) taken c.loop-edge.edge lt c.index-trees-edge.result l refl in
    let left = left_good lists before h.have.good c.loop-edge.edge lt (map (λ (b : Bor Tree). b.now) c.left.result.now) l.0.now key
    (c.left.ensures lists (keys_of before) taken) in (
      rw (← c.decreases) (let deep = most_good _ _ _ left in let whole = ap (lists_depth depth) taken.lists_are in omega (arith, deep, whole)),
      (lists_depth depth lists, h.room, left),
    )

pub add_new-loop-edge-preserved : goal.add_new-loop-edge-preserved
add_new-loop-edge-preserved t c = λ lists before h.
    let taken = h.have.taken in
    let n = as_many c.args.trees.now lists (keys_of before) taken in
    let test = c.loop-edge-test.true in
    let lt : c.loop-edge.edge < length lists = omega (arith, n, test) in
    let l = get_or c.args.trees.now.lists.now c.loop-edge.edge c.index-trees-edge.result in
    let key = key_at c.args.trees.now lists (keys_of before) taken c.loop-edge.edge lt c.index-trees-edge.result l refl in
    subst (Adds c.args.level c.args.out.now.items c.add_with_key.new.out.items)
    (next_added html before lists c.loop-edge.edge lt l.0.now (map (λ (b : Bor Tree). b.now) c.left.result.now) key (c.left.ensures lists (keys_of before) taken))
    (adds_more c.args.level c.args.out.now.items c.loop-edge.out.items c.add_with_key.new.out.items _ _ (c.loop-edge.invariant lists before h) c.in_ok-add_with_key.ensures)

pub add_new-returns : goal.add_new-returns
add_new-returns t c = λ lists before h.
    let n = as_many c.args.trees.now lists (keys_of before) h.have.taken in
    let test = c.loop-edge-test.false in
    subst (λ (l : Lists). Adds c.args.level c.args.out.now.items c.loop-edge.out.items (map an_item (added name_cmp before l)))
    (take_all c.loop-edge.edge lists (omega (arith, n, test))) (c.loop-edge.invariant lists before h)

-- ---- entries from before

pub add_old-loop-out-init : goal.add_old-loop-out-init
add_old-loop-out-init t c = record {
  utf8 = c.requires.utf8;
  within = omega arith;
  past = λ lists before all more rest room left.
      past_none c.args.level lists before all c.args.trees.now c.args.out.now.items c.args.old.now more rest room left;
}

pub add_old-next_entry-requires : goal.add_old-next_entry-requires
add_old-next_entry-requires t c =
    let r = c.requires.folder in
    let q = c.requires.room in
    let past = c.loop-out.invariant.past q.0 q.1 r.0 r.1.0 r.1.1.0 q.2 r.1.1.1 in
    (past.after, (r.1.0, (r.1.1.0, past.left)))

pub add_old-returns-in-End-clause-stays : goal.add_old-returns-in-End-clause-stays
add_old-returns-in-End-clause-stays t c = λ lists before all more rest room left.
    let past = c.loop-out.invariant.past lists before all more rest room left in
    past_all c.args.level lists before all c.loop-out.trees c.args.out.now.items c.loop-out.out.items c.loop-out.rest.now c.next_entry.result.1.now more rest past
    (rw c.in-End.is at (c.next_entry.ensures.next past.after more rest past.left))

pub add_old-add_over-requires : goal.add_old-add_over-requires
add_old-add_over-requires t c =
    let r = c.requires.folder in
    let q = c.requires.room in
    let past = c.loop-out.invariant.past q.0 q.1 r.0 r.1.0 r.1.1.0 q.2 r.1.1.1 in (
      rw (← c.decreases) (let one = ap (lists_depth depth) past.stayed.have.have.taken.lists_are in let two = ap (lists_depth depth) q.2.have.taken.lists_are in omega (arith, one, two)),
      (
        (past.after, r.1.0, r.1.1.0, c.next_entry.ensures.next past.after r.1.0 r.1.1.0 past.left),
        (
          not_end c.next_entry.result.0 c.in_default.not-End,
          (c.next_entry.ensures.utf8 c.loop-out.invariant.utf8, (q.0, q.1 ++ items_of html past.passed, past.stayed.have)),
        ),
      ),
    )

pub add_old-loop-out-preserved : goal.add_old-loop-out-preserved
add_old-loop-out-preserved t c = record {
  utf8 = c.in_ok-rest-in_default.ensures.utf8;
  within = omega (arith, c.loop-out.invariant.within, c.next_entry.ensures.shorter, c.in_ok-rest-in_default.ensures.shorter);
  past = λ lists before all more rest room left.
      let past = c.loop-out.invariant.past lists before all more rest room left in
      past_more c.args.level lists before all c.loop-out.trees c.add_over.new.trees c.args.out.now.items c.loop-out.out.items c.add_over.new.out.items c.loop-out.rest.now
      c.in_ok-rest-in_default.rest.now more rest past
      (c.in_ok-rest-in_default.ensures.past lists (before ++ items_of html past.passed) past.after more rest past.stayed.have
      (c.next_entry.ensures.next past.after more rest past.left));
}

pub add_over-returns-in_ok-add_over_link-in-Link-clause-past : goal.add_over-returns-in_ok-add_over_link-in-Link-clause-past
add_over-returns-in_ok-add_over_link-in-Link-clause-past t c = λ lists before all more rest room begins.
    let e = entry_seen c.in-Link.attributes c.in-Link.title c.in-Link.note in
    past_link c.args.level lists before all e c.add_over_link.new.trees c.args.out.now.items c.add_over_link.new.out.items c.args.behind.now more rest
    (rw c.in-Link.is at begins) (c.in_ok-add_over_link-in-Link.ensures lists before room)

pub add_over-returns-in-Folder-clause-past : goal.add_over-returns-in-Folder-clause-past
add_over-returns-in-Folder-clause-past t c = IfOk-weaker c.add_over_folder.result _ _ (λ behind h lists before all more rest room begins.
    let e = entry_seen c.in-Folder.attributes c.in-Folder.title c.in-Folder.note in
    let f = folder_next all e c.args.behind.now more rest (rw c.in-Folder.is at begins) in
    let r = h lists before f.inside (contents_symbols f.behind ++ symbols.list_end ∷ more) rest room f.left in
    past_folder c.args.level lists before all e c.add_over_folder.new.trees c.args.out.now.items c.add_over_folder.new.out.items behind.now c.args.behind.now more rest
    f r.0 r.1) c.add_over_folder.ensures.stays

pub add_over-returns-in_ok-add_separator-in-Separator-clause-past : goal.add_over-returns-in_ok-add_separator-in-Separator-clause-past
add_over-returns-in_ok-add_separator-in-Separator-clause-past t c = λ lists before all more rest room begins.
    past_separator c.args.level lists before all c.in-Separator.attributes.now c.args.trees.now c.args.out.now.items c.add_separator.new.out.items c.args.behind.now more rest
    (rw c.in-Separator.is at begins) room c.in_ok-add_separator-in-Separator.ensures

-- ---- a folder from before

pub add_over_folder-item_of-requires : goal.add_over_folder-item_of-requires
add_over_folder-item_of-requires t c =
    let q = c.requires.room in
    (took c.args.level c.args.trees.now q.0 q.1 c.in_ok-key.key c.in-Some.tree.now q.2 (rw c.in-Some.is at (c.in_ok-tree.ensures.tree q.0 (keys_of q.1) q.2.have.taken))).item

pub add_over_folder-add_kept_folder-requires : goal.add_over_folder-add_kept_folder-requires
add_over_folder-add_kept_folder-requires t c =
    let q = c.requires.room in
    let good = took c.args.level c.args.trees.now q.0 q.1 c.in_ok-key.key c.in-Some.tree.now q.2 (rw c.in-Some.is at (c.in_ok-tree.ensures.tree q.0 (keys_of q.1) q.2.have.taken)) in
    let is = rw c.in-Folder.is at c.item_of.ensures in (
      rw (← c.decreases) (falls_below q.0 c.in_ok-key.key c.in-Folder.below.now c.in-Some.tree.now _ (ap (lists_depth depth) q.2.have.taken.lists_are) good is.0),
      (
        c.requires.folder,
        (c.requires.utf8, (is.1, room_below c.args.level q.0 c.in_ok-key.key c.in-Folder.below.now c.in-Some.tree.now q.2.room good is.0)),
      ),
    )

pub add_over_folder-returns-in-Folder-clause-stays : goal.add_over_folder-returns-in-Folder-clause-stays
add_over_folder-returns-in-Folder-clause-stays t c = IfOk-weaker c.add_kept_folder.result _ _ (λ behind h lists before all more rest room left.
    let e = seen c.args.entry in
    let is = rw c.in-Folder.is at c.item_of.ensures in
    let key = c.in_ok-key.ensures in
    let tree = subst (λ k. Some c.in-Some.tree.now ≡ tree_for lists before k) key (rw c.in-Some.is at (c.in_ok-tree.ensures.tree lists (keys_of before) room.have.taken)) in
    let good = took c.args.level c.args.trees.now lists before (html.folder_key e) c.in-Some.tree.now room tree in
    let r = h all more rest left in (
      record {
        have = have_more c.args.level c.args.trees.now c.next.new.self lists before (html.folder_key e, a_folder e all) c.in_ok-key.key key room
            (c.in_ok-tree.ensures.taken lists (keys_of before) room.have.taken);
        adds = stays_as c.args.level lists before (html.folder_key e, a_folder e all) c.in-Some.tree.now c.args.out.now.items c.add_kept_folder.new.out.items tree
            (adds_folder c.args.level c.args.out.now.items c.add_kept_folder.new.out.items (html.folder_key e) (Some (a_folder e all)) c.in-Folder.below.now
            c.in-Some.tree.now good.key is.0 r.0);
      },
      r.1,
    )) c.add_kept_folder.ensures.anew

pub add_over_folder-returns-in-Some-clause-stays : goal.add_over_folder-returns-in-Some-clause-stays
add_over_folder-returns-in-Some-clause-stays t c = λ lists before all more rest room left.
    let e = seen c.args.entry in
    let is = rw c.in-Link.is at c.item_of.ensures in
    let key = c.in_ok-key.ensures in
    let tree = subst (λ k. Some c.in-Some.tree.now ≡ tree_for lists before k) key (rw c.in-Some.is at (c.in_ok-tree.ensures.tree lists (keys_of before) room.have.taken)) in
    let good = took c.args.level c.args.trees.now lists before (html.folder_key e) c.in-Some.tree.now room tree in (
      record {
        have = have_more c.args.level c.args.trees.now c.next.new.self lists before (html.folder_key e, a_folder e all) c.in_ok-key.key key room
            (c.in_ok-tree.ensures.taken lists (keys_of before) room.have.taken);
        adds = stays_as c.args.level lists before (html.folder_key e, a_folder e all) c.in-Some.tree.now c.args.out.now.items c.add_new_link.new.out.items tree
            (adds_link c.args.level c.args.out.now.items c.add_new_link.new.out.items (html.folder_key e) c.in-Link.address.now (Some (a_folder e all)) c.in-Some.tree.now
            good.key is.1 is.0
            (subst (λ (k : Name). StandBehind c.args.level c.args.out.now.items c.add_new_link.new.out.items (link (html.new_link k c.in-Link.address.now) nothing)) key
            c.in_ok-add_new_link-in-Link.ensures));
      },
      (c.nesting_in.ensures.nesting all more rest left).1,
    )

pub add_over_folder-returns-clause-stays : goal.add_over_folder-returns-clause-stays
add_over_folder-returns-clause-stays t c = λ lists before all more rest room left.
    let e = seen c.args.entry in
    let key = c.in_ok-key.ensures in
    let none = subst (λ k. None ≡ tree_for lists before k) key (rw c.in-None.is at (c.in_ok-tree.ensures.tree lists (keys_of before) room.have.taken)) in (
      record {
        have = have_more c.args.level c.args.trees.now c.next.new.self lists before (html.folder_key e, a_folder e all) c.in_ok-key.key key room
            (c.in_ok-tree.ensures.taken lists (keys_of before) room.have.taken);
        adds = goes_away c.args.level lists before (html.folder_key e, a_folder e all) c.args.out.now.items none;
      },
      (c.nesting_in-in-None.ensures.nesting all more rest left).1,
    )

-- ---- a link from before

pub add_over_link-item_of-requires : goal.add_over_link-item_of-requires
add_over_link-item_of-requires t c =
    let q = c.requires.room in
    (took c.args.level c.args.trees.now q.0 q.1 c.in_ok-key.key c.in-Some.tree.now q.2 (rw c.in-Some.is at (c.in_ok-tree.ensures.tree q.0 (keys_of q.1) q.2.have.taken))).item

pub add_over_link-returns-in-Link : goal.add_over_link-returns-in-Link
add_over_link-returns-in-Link t c = on_ok_weaker c.add_kept_link.result (λ lines lists before room.
    let e = seen c.args.entry in
    let is = rw c.in-Link.is at c.item_of.ensures in
    let key = c.in_ok-key.ensures in
    let tree = subst (λ k. Some c.in-Some.tree.now ≡ tree_for lists before k) key (rw c.in-Some.is at (c.in_ok-tree.ensures.tree lists (keys_of before) room.have.taken)) in
    let good = took c.args.level c.args.trees.now lists before (html.link_key e) c.in-Some.tree.now room tree in
    record {
      have = have_more c.args.level c.args.trees.now c.next.new.self lists before (html.link_key e, a_link e) c.in_ok-key.key key room
          (c.in_ok-tree.ensures.taken lists (keys_of before) room.have.taken);
      adds = stays_as c.args.level lists before (html.link_key e, a_link e) c.in-Some.tree.now c.args.out.now.items c.add_kept_link.new.out.items tree
          (adds_link c.args.level c.args.out.now.items c.add_kept_link.new.out.items (html.link_key e) c.in-Link.address.now (Some (a_link e)) c.in-Some.tree.now
          good.key is.1 is.0 lines);
    }) c.add_kept_link.ensures

pub add_over_link-add_new_folder-requires : goal.add_over_link-add_new_folder-requires
add_over_link-add_new_folder-requires t c =
    let q = c.requires.room in
    let good = took c.args.level c.args.trees.now q.0 q.1 c.in_ok-key.key c.in-Some.tree.now q.2 (rw c.in-Some.is at (c.in_ok-tree.ensures.tree q.0 (keys_of q.1) q.2.have.taken)) in
    let is = rw c.in-Folder.is at c.item_of.ensures in (
      rw (← c.decreases) (falls_below q.0 c.in_ok-key.key c.in-Folder.inside.now c.in-Some.tree.now _ (ap (lists_depth depth) q.2.have.taken.lists_are) good is.0),
      (is.1, room_below c.args.level q.0 c.in_ok-key.key c.in-Folder.inside.now c.in-Some.tree.now q.2.room good is.0),
    )

pub add_over_link-returns-in-Some : goal.add_over_link-returns-in-Some
add_over_link-returns-in-Some t c = on_ok_weaker c.add_new_folder.result (λ adds lists before room.
    let e = seen c.args.entry in
    let is = rw c.in-Folder.is at c.item_of.ensures in
    let key = c.in_ok-key.ensures in
    let tree = subst (λ k. Some c.in-Some.tree.now ≡ tree_for lists before k) key (rw c.in-Some.is at (c.in_ok-tree.ensures.tree lists (keys_of before) room.have.taken)) in
    let good = took c.args.level c.args.trees.now lists before (html.link_key e) c.in-Some.tree.now room tree in
    record {
      have = have_more c.args.level c.args.trees.now c.next.new.self lists before (html.link_key e, a_link e) c.in_ok-key.key key room
          (c.in_ok-tree.ensures.taken lists (keys_of before) room.have.taken);
      adds = stays_as c.args.level lists before (html.link_key e, a_link e) c.in-Some.tree.now c.args.out.now.items c.add_new_folder.new.out.items tree
          (adds_folder c.args.level c.args.out.now.items c.add_new_folder.new.out.items (html.link_key e) (Some (a_link e)) c.in-Folder.inside.now c.in-Some.tree.now
          good.key is.0
          (subst (λ (k : Name). AddsFolder c.args.level c.args.out.now.items c.add_new_folder.new.out.items (html.new_folder k) nothing c.in-Folder.inside.now) key adds));
    }) c.add_new_folder.ensures

pub add_over_link-returns : goal.add_over_link-returns
add_over_link-returns t c = λ lists before room.
    let e = seen c.args.entry in
    let key = c.in_ok-key.ensures in
    let none = subst (λ k. None ≡ tree_for lists before k) key (rw c.in-None.is at (c.in_ok-tree.ensures.tree lists (keys_of before) room.have.taken)) in
    record {
      have = have_more c.args.level c.args.trees.now c.next.new.self lists before (html.link_key e, a_link e) c.in_ok-key.key key room
          (c.in_ok-tree.ensures.taken lists (keys_of before) room.have.taken);
      adds = goes_away c.args.level lists before (html.link_key e, a_link e) c.args.out.now.items none;
    }
