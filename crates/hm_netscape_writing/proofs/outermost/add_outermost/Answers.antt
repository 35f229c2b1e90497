use Rattle.std.proofs.Common.{◌∷◌, ◌++◌, sym, ap, ◌∙◌, subst, arith}
use Rattle.hm_tree.specs.Nodes.{edges}
use Rattle.hm_book_items.specs.ItemTrees.{AreLists}
use Rattle.hm_book_items.specs.Lent.{lent_lists}
use Rattle.hm_book_items.proofs.Laws.{are_lists}
use Rattle.hm_marks.specs.Layouts.{items_of}
use Rattle.hm_marks_schema.proofs.Taking.{lists_good}
use Rattle.hm_marks_tokens.specs.Symbols as symbols
use Rattle.hm_marks_tokens.specs.Grammar.{contents_symbols}
use Rattle.hm_netscape_entries.specs.Entries.{html}
use Rattle.hm_netscape_files.specs.Anew.{bar_entry}
use Rattle.hm_netscape_lines.specs.Behind.{seen, joined}
use Rattle.hm_netscape_writing.specs.Added.{Before, HaveRoom}
use Rattle.hm_netscape_writing.specs.Outermost.{AddsOutermost, IsMissing}
use Rattle.hm_netscape_writing.proofs.Around.{entry_is, with_entry, without_entry}
use Rattle.hm_netscape_writing.proofs.Joining.{items_joined}
use Rattle.hm_netscape_writing.proofs.Missing.{both_less}
use Rattle.hm_netscape_writing.proofs.Rooms.{begun_room, tree_of_lists}
use Rattle.hm_netscape_writing.proofs.outermost.add_outermost.Goals as goal

pub add_missing_bar-requires-clause-room : goal.add_missing_bar-requires-clause-room
add_missing_bar-requires-clause-room c =
    let less = both_less c.args.tree.now c.folders_of.result.0.now c.folders_of.result.1.now c.folders_of.ensures in omega (arith, less.bar_less, c.requires.room)

pub item_lists-requires : goal.item_lists-requires
item_lists-requires c =
    let good = lists_good c.folders_of.result.1.now c.folders_of.ensures.other in are_lists c.folders_of.result.1.now good.lists good.below

pub new-requires : goal.new-requires
new-requires c =
    (tree_of_lists c.folders_of.result.1.now (lent_lists c.deref.result.now) c.folders_of.ensures.other
    (subst (λ l. AreLists (edges c.folders_of.result.1.now) (lent_lists l)) (sym c.deref.ensures.value) c.in_ok-lists.ensures)).sorted

pub add_front-requires-clause-room : goal.add_front-requires-clause-room
add_front-requires-clause-room c =
    let lists = lent_lists c.deref.result.now in
    let below = subst (λ l. AreLists (edges c.folders_of.result.1.now) (lent_lists l)) (sym c.deref.ensures.value) c.in_ok-lists.ensures in
    let less = both_less c.args.tree.now c.folders_of.result.0.now c.folders_of.result.1.now c.folders_of.ensures in
    let begun = begun_room 1 c.folders_of.result.1.now c.in_ok-trees.trees lists c.folders_of.ensures.other below c.in_ok-trees.ensures
    (omega (arith, less.other_less, c.requires.room)) in
    (lists, begun)

pub add_kept_folder-requires-clause-folder : goal.add_kept_folder-requires-clause-folder
add_kept_folder-requires-clause-folder c =
    let lists = lent_lists c.deref.result.now in
    let below = subst (λ l. AreLists (edges c.folders_of.result.1.now) (lent_lists l)) (sym c.deref.ensures.value) c.in_ok-lists.ensures in
    let less = both_less c.args.tree.now c.folders_of.result.0.now c.folders_of.result.1.now c.folders_of.ensures in
    let begun = begun_room 1 c.folders_of.result.1.now c.in_ok-trees.trees lists c.folders_of.ensures.other below c.in_ok-trees.ensures
    (omega (arith, less.other_less, c.requires.room)) in
    let r = c.requires.folder in
    let at = rw c.in-Some-default.is-0 at (c.in_ok-entry.ensures.found lists r.0 r.1.0 r.1.1.0 begun r.1.1.1) in
    (at.inside, (contents_symbols at.behind ++ symbols.list_end ∷ r.1.0, (r.1.1.0, at.left)))

pub add_kept_folder-requires-clause-room : goal.add_kept_folder-requires-clause-room
add_kept_folder-requires-clause-room c =
    let less = both_less c.args.tree.now c.folders_of.result.0.now c.folders_of.result.1.now c.folders_of.ensures in omega (arith, less.bar_less, c.requires.room)

pub add_old-requires-clause-folder : goal.add_old-requires-clause-folder
add_old-requires-clause-folder c =
    let lists = lent_lists c.deref.result.now in
    let below = subst (λ l. AreLists (edges c.folders_of.result.1.now) (lent_lists l)) (sym c.deref.ensures.value) c.in_ok-lists.ensures in
    let less = both_less c.args.tree.now c.folders_of.result.0.now c.folders_of.result.1.now c.folders_of.ensures in
    let begun = begun_room 1 c.folders_of.result.1.now c.in_ok-trees.trees lists c.folders_of.ensures.other below c.in_ok-trees.ensures
    (omega (arith, less.other_less, c.requires.room)) in
    let r = c.requires.folder in
    let at = rw c.in-Some-default.is-0 at (c.in_ok-entry.ensures.found lists r.0 r.1.0 r.1.1.0 begun r.1.1.1) in
    let kept = c.in_ok-rest-in-Some-default.ensures.anew at.inside (contents_symbols at.behind ++ symbols.list_end ∷ r.1.0) r.1.1.0 at.left in
    (at.behind, (r.1.0, (r.1.1.0, kept.1)))

pub add_old-requires-clause-room : goal.add_old-requires-clause-room
add_old-requires-clause-room c =
    let lists = lent_lists c.deref.result.now in
    let below = subst (λ l. AreLists (edges c.folders_of.result.1.now) (lent_lists l)) (sym c.deref.ensures.value) c.in_ok-lists.ensures in
    let less = both_less c.args.tree.now c.folders_of.result.0.now c.folders_of.result.1.now c.folders_of.ensures in
    let begun = begun_room 1 c.folders_of.result.1.now c.in_ok-trees.trees lists c.folders_of.ensures.other below c.in_ok-trees.ensures
    (omega (arith, less.other_less, c.requires.room)) in
    let r = c.requires.folder in
    let at = rw c.in-Some-default.is-0 at (c.in_ok-entry.ensures.found lists r.0 r.1.0 r.1.1.0 begun r.1.1.1) in
    (lists, items_of html at.front, at.stayed.have)

pub add_new-requires : goal.add_new-requires
add_new-requires c =
    let lists = lent_lists c.deref.result.now in
    let below = subst (λ l. AreLists (edges c.folders_of.result.1.now) (lent_lists l)) (sym c.deref.ensures.value) c.in_ok-lists.ensures in
    let less = both_less c.args.tree.now c.folders_of.result.0.now c.folders_of.result.1.now c.folders_of.ensures in
    let begun = begun_room 1 c.folders_of.result.1.now c.in_ok-trees.trees lists c.folders_of.ensures.other below c.in_ok-trees.ensures
    (omega (arith, less.other_less, c.requires.room)) in
    let r = c.requires.folder in
    let at = rw c.in-Some-default.is-0 at (c.in_ok-entry.ensures.found lists r.0 r.1.0 r.1.1.0 begun r.1.1.1) in
    let kept = c.in_ok-rest-in-Some-default.ensures.anew at.inside (contents_symbols at.behind ++ symbols.list_end ∷ r.1.0) r.1.1.0 at.left in
    let stays = c.in_ok-behind-in-Some-default.ensures.stays lists (items_of html at.front) at.behind r.1.0 r.1.1.0 at.stayed.have kept.1 in
    record { room = (lists, items_of html at.front ++ items_of html at.behind, stays.0.have) }

pub returns-in-Some-default : goal.returns-in-Some-default
returns-in-Some-default c = λ all more rest left.
    let lists = lent_lists c.deref.result.now in
    let below = subst (λ l. AreLists (edges c.folders_of.result.1.now) (lent_lists l)) (sym c.deref.ensures.value) c.in_ok-lists.ensures in
    let less = both_less c.args.tree.now c.folders_of.result.0.now c.folders_of.result.1.now c.folders_of.ensures in
    let begun = begun_room 1 c.folders_of.result.1.now c.in_ok-trees.trees lists c.folders_of.ensures.other below c.in_ok-trees.ensures
    (omega (arith, less.other_less, c.requires.room)) in
    let t = c.args.tree.now in
    let bar = c.folders_of.result.0.now in
    let other = c.folders_of.result.1.now in
    let e = seen c.in-Some-default.entry in
    let at = rw c.in-Some-default.is-0 at (c.in_ok-entry.ensures.found lists all more rest begun left) in
    let kept = c.in_ok-rest-in-Some-default.ensures.anew at.inside (contents_symbols at.behind ++ symbols.list_end ∷ more) rest at.left in
    let stays = c.in_ok-behind-in-Some-default.ensures.stays lists (items_of html at.front) at.behind more rest at.stayed.have kept.1 in
    let room = subst (λ (xs : Before). HaveRoom 1 c.add_old.new.trees lists xs) (sym (items_joined at.front at.behind)) stays.0.have in
    let same = subst (λ o. IsMissing o bar c.args.out.now.items c.add_missing_bar.new.out.items)
    (ap bar_entry at.are ∙ entry_is e at.inside at.behind at.is at.front at.none) (c.in_ok-add_missing_bar.ensures all more rest left) in (
      subst (λ v. AddsOutermost v c.add_new.new.out.items all t) same
          (subst (λ old. AddsOutermost c.add_missing_bar.new.out.items c.add_new.new.out.items old t) (sym at.are)
          (with_entry t bar other c.folders_of.ensures lists below (tree_of_lists other lists c.folders_of.ensures.other below) e at.front at.inside at.behind at.none at.is
          c.add_missing_bar.new.out.items c.add_front.new.out.items c.add_kept_folder.new.out.items c.add_old.new.out.items c.add_new.new.out.items at.stayed.adds kept.0
          stays.0.adds (c.in_ok-add_new-in-Some-default.ensures lists (items_of html (joined at.front at.behind)) room))),
      stays.1,
    )

pub add_new-requires-in-None-default : goal.add_new-requires-in-None-default
add_new-requires-in-None-default c =
    let lists = lent_lists c.deref.result.now in
    let below = subst (λ l. AreLists (edges c.folders_of.result.1.now) (lent_lists l)) (sym c.deref.ensures.value) c.in_ok-lists.ensures in
    let less = both_less c.args.tree.now c.folders_of.result.0.now c.folders_of.result.1.now c.folders_of.ensures in
    let begun = begun_room 1 c.folders_of.result.1.now c.in_ok-trees.trees lists c.folders_of.ensures.other below c.in_ok-trees.ensures
    (omega (arith, less.other_less, c.requires.room)) in
    let r = c.requires.folder in
    let at = rw c.in-None-default.is-0 at (c.in_ok-entry.ensures.found lists r.0 r.1.0 r.1.1.0 begun r.1.1.1) in
    record { room = (lists, items_of html r.0, at.stayed.have) }

pub returns : goal.returns
returns c = λ all more rest left.
    let lists = lent_lists c.deref.result.now in
    let below = subst (λ l. AreLists (edges c.folders_of.result.1.now) (lent_lists l)) (sym c.deref.ensures.value) c.in_ok-lists.ensures in
    let less = both_less c.args.tree.now c.folders_of.result.0.now c.folders_of.result.1.now c.folders_of.ensures in
    let begun = begun_room 1 c.folders_of.result.1.now c.in_ok-trees.trees lists c.folders_of.ensures.other below c.in_ok-trees.ensures
    (omega (arith, less.other_less, c.requires.room)) in
    let t = c.args.tree.now in
    let bar = c.folders_of.result.0.now in
    let other = c.folders_of.result.1.now in
    let at = rw c.in-None-default.is-0 at (c.in_ok-entry.ensures.found lists all more rest begun left) in (
      without_entry t bar other c.folders_of.ensures lists below (tree_of_lists other lists c.folders_of.ensures.other below) all at.none c.args.out.now.items
          c.add_missing_bar.new.out.items c.add_front.new.out.items c.add_new-in-None-default.new.out.items
          (subst (λ o. IsMissing o bar c.args.out.now.items c.add_missing_bar.new.out.items) at.none (c.in_ok-add_missing_bar.ensures all more rest left)) at.stayed.adds
          (c.in_ok-add_new-in-None-default.ensures lists (items_of html all) at.stayed.have),
      at.ends,
    )
