-- A file of items has one tree, which can be taken apart.
use Rattle.std.proofs.lemmas.List.Elements.{All-nil, All-cons}
use Rattle.std.specs.Prelude.{All}
use Rattle.std.proofs.Common.{◌≡◌, List, [], ◌∷◌, refl, sym, ap, ◌∙◌, subst}
use Rattle.hm_tree.specs.Names.{Name, name_cmp}
use Rattle.hm_tree.specs.Nodes.{Tree, edges}
use Rattle.hm_tree.specs.NodeLaws.{same_edges, tree_unmarked}
use Rattle.hm_tree.proofs.Sorted.{name_total, name_one}
use Rattle.hm_tree_parts.specs.Lists.{HasItems, IsList, none_left, and_then, no_items, an_item, head, tail}
use Rattle.hm_tree_parts.proofs.OneList.{one_head, one_tail, nil_item}
use Rattle.hm_book_items.proofs.ReadBack.{grouped_once}
use Rattle.hm_book_items.specs.ItemTrees.{HasLists, AreLists, IsItemTree}

same : (t u : Tree) → edges t ≡ edges u → t ≡ u
same t u = same_edges t u (tree_unmarked t) (tree_unmarked u)

one_list : (xs : List Tree) (t u : Tree) → HasItems t xs → HasItems u xs → t ≡ u
one_list [] t u (none_left a) (none_left b) = same t u (a ∙ sym b)
one_list (x ∷ xs) t u (and_then {r = r} a h) (and_then {r = q} b g) =
    same t u (a ∙ ap (λ (z : Tree). (head, x) ∷ (tail, z) ∷ []) (one_list xs r q h g) ∙ sym b)

one_below : (es fs : List (Name × Tree)) (ls : List (Name × List Tree)) → AreLists es ls → AreLists fs ls → es ≡ fs
one_below [] [] [] a b = refl
one_below [] (f ∷ fs) [] a b = absurd b
one_below (e ∷ es) fs [] a b = absurd a
one_below [] fs (l ∷ ls) a b = absurd a
one_below (e ∷ es) [] (l ∷ ls) a b = absurd b
one_below (e ∷ es) (f ∷ fs) (l ∷ ls) a b =
    λ i. ((a.0.0 ∙ sym b.0.0) i, one_list l.1 e.1 f.1 a.0.1 b.0.1 i) ∷ one_below es fs ls a.1 b.1 i

-- the items of a list are known from it
once : (t : Tree) (xs ys : List Tree) → HasItems t xs → HasItems t ys → xs ≡ ys
once t [] [] (none_left a) (none_left b) = refl
once t [] (y ∷ ys) (none_left a) (and_then {r = q} b g) = absurd (nil_item y q t a b)
once t (x ∷ xs) [] (and_then {r = r} a h) (none_left b) = absurd (nil_item x r t b a)
once t (x ∷ xs) (y ∷ ys) (and_then {r = r} a h) (and_then {r = q} b g) =
    λ i. one_head x r y q t a b i ∷ once r xs ys h (subst (λ (z : Tree). HasItems z ys) (one_tail y q x r t b a) g) i

-- and so are the lists of edges
pub lists_once : (es : List (Name × Tree)) (a b : List (Name × List Tree)) → AreLists es a → AreLists es b → a ≡ b
lists_once [] [] [] f g = refl
lists_once [] (x ∷ a) b f g = absurd f
lists_once [] [] (y ∷ b) f g = absurd g
lists_once (e ∷ es) [] b f g = absurd f
lists_once (e ∷ es) (x ∷ a) [] f g = absurd g
lists_once (e ∷ es) (x ∷ a) (y ∷ b) f g =
    λ i. ((sym f.0.0 ∙ g.0.0) i, once e.1 x.1 y.1 f.0.1 g.0.1 i) ∷ lists_once es a b f.1 g.1 i

-- items have one tree at the most
pub item_tree_once : (items : List (Name × Tree)) (t u : Tree) → IsItemTree items t → IsItemTree items u → t ≡ u
item_tree_once items t u a b =
    same t u (one_below (edges t) (edges u) b.lists
    (subst (AreLists (edges t)) (grouped_once name_cmp name_total name_one items a.lists b.lists a.grouped b.grouped) a.below) b.below)

is_list : (xs : List Tree) (t : Tree) → HasItems t xs → IsList t
is_list [] t (none_left nil) = no_items nil
is_list (x ∷ xs) t (and_then {r = r} item h) = an_item item tt (is_list xs r h)

each_is_list : (es : List (Name × Tree)) (ls : List (Name × List Tree)) → AreLists es ls → All (λ (e : Name × Tree). IsList e.1) es
each_is_list [] [] h = All-nil (λ (e : Name × Tree). IsList e.1)
each_is_list [] (l ∷ ls) h = absurd h
each_is_list (e ∷ es) [] h = absurd h
each_is_list (e ∷ es) (l ∷ ls) h = All-cons (λ (e : Name × Tree). IsList e.1) e es (is_list l.1 e.1 h.0.1) (each_is_list es ls h.1)

-- a tree with these lists below its names can be taken apart
pub are_lists : (t : Tree) (ls : List (Name × List Tree)) → AreLists (edges t) ls → HasLists t
are_lists t ls below = each_is_list (edges t) ls below

-- and so can the tree of items
pub has_lists : (items : List (Name × Tree)) (t : Tree) → IsItemTree items t → HasLists t
has_lists items t is = are_lists t is.lists is.below
