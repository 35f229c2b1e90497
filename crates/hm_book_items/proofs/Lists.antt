-- Trees that have given lists below their names.
use Rattle.std.proofs.Common.{◌≡◌, ◌&&◌, true, List, [], ◌∷◌, ◌++◌, map, refl, sym, ap, ◌∙◌, subst}
use Rattle.std.specs.Prelude.{T}
use Rattle.std.specs.Ordering.{is_lt}
use Rattle.std.specs.List.{AllZip}
use Rattle.std.proofs.lemmas.List.{map-append}
use Rattle.std.specs.Str.{is_utf8}
use Rattle.std.specs.FinMap.{is_sorted}
use Rattle.hm_tree.specs.Names.{Name, name_cmp}
use Rattle.hm_tree.specs.Nodes.{Tree, node, edges, are_edges, below_all, edges_from, edges_head, edges_below, edges_tail, edges_cons, both, first, second}
use Rattle.hm_tree.specs.NodeLaws.{edges-node, edges_empty}
use Rattle.hm_tree.proofs.Texts.{ascii_test}
use Rattle.hm_tree_parts.specs.Lists.{HasItems, none_left, and_then, head, tail}
use Rattle.hm_tree_parts.specs.Lent.{lent}
use Rattle.hm_book_items.specs.ItemTrees.{AreLists, list_tree, list_edge, tree_of_lists}
use Rattle.hm_book_items.specs.Lent.{LentList, lent_list, lent_lists}

module _ {A B : Type 0} (R : A → B → Type 0) where
  pub one_more : (xs : List A) (ys : List B) (x : A) (y : B) → AllZip R xs ys → R x y → AllZip R (xs ++ x ∷ []) (ys ++ y ∷ [])
  one_more [] [] x y h r = (r, tt)
  one_more [] (z ∷ ys) x y h r = absurd h
  one_more (w ∷ xs) [] x y h r = absurd h
  one_more (w ∷ xs) (z ∷ ys) x y h r = (h.0, one_more xs ys x y h.1 r)

pub one_list_more : (es fs : List (Name × Tree)) (ls ms : List LentList) (e : Name × Tree) (l : LentList) → AreLists es (lent_lists ls)
    → fs ≡ es ++ e ∷ [] → ms ≡ ls ++ l ∷ [] → (e.0 ≡ l.0.now) × HasItems e.1 (lent l.1.items) → AreLists fs (lent_lists ms)
one_list_more es fs ls ms e l h taken given same =
    let more = one_more (λ (e : Name × Tree) (l : Name × List Tree). (e.0 ≡ l.0) × HasItems e.1 l.1) es (lent_lists ls) e (lent_list l) h same in
    subst (λ fs. AreLists fs (lent_lists ms)) (sym taken)
    (subst (AreLists (es ++ e ∷ [])) (sym (ap lent_lists given ∙ map-append lent_list ls (l ∷ []))) more)

-- ---- edges with lists below them are edges of a tree, where the names of the lists may be

below_lists : (n : Name) (es : List (Name × Tree)) (ls : List (Name × List Tree)) → AreLists es ls → T (below_all n ls) → T (below_all n es)
below_lists n [] [] h below = tt
below_lists n [] (l ∷ ls) h below = absurd h
below_lists n (e ∷ es) [] h below = absurd h
below_lists n (e ∷ es) (l ∷ ls) h below =
    both _ _ (subst (λ k. T (is_lt (name_cmp n k))) (sym h.0.0) (first _ _ below)) (below_lists n es ls h.1 (second _ _ below))

pub edges_fit : (es : List (Name × Tree)) (ls : List (Name × List Tree)) → AreLists es ls → T (are_edges ls) → T (are_edges es)
edges_fit [] [] h fit = tt
edges_fit [] (l ∷ ls) h fit = absurd h
edges_fit (e ∷ es) [] h fit = absurd h
edges_fit (e ∷ es) (l ∷ ls) h fit =
    edges_cons e es (subst (λ k. T (is_utf8 k)) (sym h.0.0) (edges_head l ls fit))
    (subst (λ k. T (below_all k es)) (sym h.0.0) (below_lists l.0 es ls h.1 (edges_below l ls fit)))
    (edges_fit es ls h.1 (edges_tail l ls fit))

pub made_lists : (es : List (Name × Tree)) (ls : List (Name × List Tree)) (t : Tree) → t ≡ node es → AreLists es ls → T (are_edges ls)
    → AreLists (edges t) ls
made_lists es ls t is h fit = subst (λ fs. AreLists fs ls) (sym (ap edges is ∙ edges-node es (edges_fit es ls h fit))) h

-- ---- there is a tree with these lists

list_rises : (x r : Tree) → T (is_sorted name_cmp ((head, x) ∷ (tail, r) ∷ []))
unfolding name_cmp
list_rises x r = tt

list_edges : (x r : Tree) → T (are_edges ((head, x) ∷ (tail, r) ∷ []))
list_edges x r =
    edges_from ((head, x) ∷ (tail, r) ∷ []) (list_rises x r)
    (both (is_utf8 head) (is_utf8 tail && true) (ascii_test head refl) (both (is_utf8 tail) true (ascii_test tail refl) tt))

pub has_items : (xs : List Tree) → HasItems (list_tree xs) xs
has_items [] = none_left edges_empty
has_items (x ∷ xs) = and_then (edges-node ((head, x) ∷ (tail, list_tree xs) ∷ []) (list_edges x (list_tree xs))) (has_items xs)

stand : (ls : List (Name × List Tree)) → AreLists (map list_edge ls) ls
stand [] = tt
stand (l ∷ ls) = ((refl, has_items l.1), stand ls)

pub standing_tree : (ls : List (Name × List Tree)) → T (are_edges ls) → AreLists (edges (tree_of_lists ls)) ls
standing_tree ls fit = made_lists (map list_edge ls) ls (tree_of_lists ls) refl (stand ls) fit
