use Rattle.std.proofs.Common.{◌≡◌, List, ap, ◌∙◌, subst}
use Rattle.std.specs.Prelude.{T}
use Rattle.hm_tree.specs.Names.{Name}
use Rattle.hm_tree.specs.Nodes.{Tree, depth, are_texts}
use Rattle.hm_book_items.specs.ItemTrees.{IsTooDeep, lists_depth}
use Rattle.hm_book_items.specs.Runs.{runs}
use Rattle.hm_book_items.proofs.Runs.{grouped, runs_fit}
use Rattle.hm_book_items.proofs.Limits.{shallow, too_deep}
use Rattle.hm_book_items.proofs.gathering.item_tree.Goals as goal

pub returns-then-depth-deepest-clause-too_deep : goal.returns-then-depth-deepest-clause-too_deep
returns-then-depth-deepest-clause-too_deep c = λ found is.
    let same : c.in_ok-depth.depth ≡ found = cc in
    let texts = subst (λ (xs : List (Name × Tree)). T (are_texts xs)) c.deref.ensures.value c.in_ok-depth.ensures.texts in
    subst (IsTooDeep c.args.items.items c.args.deepest) same
    (too_deep c.args.items.items (runs c.in_ok-sorted.sorted.items)
    (grouped c.args.items.items c.in_ok-sorted.sorted.items c.in_ok-sorted.ensures.rise c.in_ok-sorted.ensures.each) c.args.deepest c.in_ok-depth.depth
    (c.in_ok-depth.ensures.depth ∙ ap (λ (xs : List (Name × Tree)). lists_depth depth (runs xs)) c.deref.ensures.value)
    (runs_fit c.in_ok-sorted.sorted.items c.in_ok-sorted.ensures.rise texts) c.if-depth-deepest.true)

pub tree_of-requires : goal.tree_of-requires
tree_of-requires c =
    runs_fit c.in_ok-sorted.sorted.items c.in_ok-sorted.ensures.rise
    (subst (λ (xs : List (Name × Tree)). T (are_texts xs)) c.deref.ensures.value c.in_ok-depth.ensures.texts)

pub returns-clause-tree : goal.returns-clause-tree
returns-clause-tree c =
    shallow c.args.items.items (runs c.in_ok-sorted.sorted.items)
    (grouped c.args.items.items c.in_ok-sorted.sorted.items c.in_ok-sorted.ensures.rise c.in_ok-sorted.ensures.each) c.args.deepest c.in_ok-depth.depth
    (c.in_ok-depth.ensures.depth ∙ ap (λ (xs : List (Name × Tree)). lists_depth depth (runs xs)) c.deref.ensures.value)
    c.if-depth-deepest.false c.in_ok-tree_of.field-0 c.in_ok-tree_of.ensures
