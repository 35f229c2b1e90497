-- The tree of items against a limit of its depth.
use Rattle.std.proofs.Common.{◌≡◌, ℕ, ◌<◌, ◌≤◌, List, sym, ◌∙◌, subst}
use Rattle.std.specs.Prelude.{T}
use Rattle.hm_tree.specs.Names.{Name, name_cmp}
use Rattle.hm_tree.specs.Nodes.{Tree, depth, edges, are_edges}
use Rattle.hm_book_items.specs.Items.{IsGrouped}
use Rattle.hm_book_items.specs.ItemTrees.{AreLists, IsShallow, IsTooDeep, lists_depth, tree_of_lists}
use Rattle.hm_book_items.proofs.Lists.{standing_tree}
use Rattle.hm_book_items.proofs.ListDepths.{depth_tree}

module _ (items : List (Name × Tree)) (ls : List (Name × List Tree)) (grouped : IsGrouped name_cmp items ls)
    (deepest found : ℕ) (depth_is : found ≡ lists_depth depth ls) where
  -- a tree that isn't too deep
  pub shallow : found ≤ deepest → (t : Tree) → AreLists (edges t) ls → IsShallow items deepest t
  shallow within t below = record {
    is = record { lists = ls; grouped = grouped; below = below };
    within = subst (λ n. n ≤ deepest) (depth_is ∙ sym (depth_tree ls t below)) within;
  }

  -- there is a tree, though none is built
  pub too_deep : T (are_edges ls) → deepest < found → IsTooDeep items deepest found
  too_deep fit over =
      let below = standing_tree ls fit in
      record {
        tree = tree_of_lists ls;
        is = record { lists = ls; grouped = grouped; below = below };
        depth_is = depth_is ∙ sym (depth_tree ls (tree_of_lists ls) below);
        over = over;
      }
