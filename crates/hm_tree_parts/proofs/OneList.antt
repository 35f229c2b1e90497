-- Lists as trees: there are such, and one of an item and of the others.
use Rattle.std.proofs.Common.{◌≡◌, true, false, ◌&&◌, T, [], ◌∷◌, Some, None, refl, sym, ap, ◌∙◌}
use Rattle.std.specs.Ordering.{eq_by_cmp}
use Rattle.std.specs.FinMap.{find, is_sorted}
use Rattle.std.specs.Str.{is_utf8}
use Rattle.std.proofs.lemmas.Cmp.{tied_itself}
use Rattle.std.proofs.lemmas.Option.{same_Some, none-some}
use Rattle.hm_tree.specs.Names.{Name, name_cmp}
use Rattle.hm_tree.specs.Nodes.{Tree, node, edges, below, are_edges, edges_from, both}
use Rattle.hm_tree.specs.NodeLaws.{edges-node, same_edges, tree_unmarked}
use Rattle.hm_tree.proofs.Sorted.{name_total}
use Rattle.hm_tree.proofs.Texts.{ascii_test}
use Rattle.hm_tree_parts.specs.Lists.{IsNil, IsItem, head, tail}

abbrev pub tail_head : eq_by_cmp name_cmp tail head ≡ false
unfolding name_cmp
tail_head = refl

pub below-head : (x r t : Tree) → IsItem x r t → below head t ≡ Some x
below-head x r t e = ap (find name_cmp head) e ∙ rw (tied_itself name_total head) refl

pub below-tail : (x r t : Tree) → IsItem x r t → below tail t ≡ Some r
below-tail x r t e = ap (find name_cmp tail) e ∙ rw (tail_head, tied_itself name_total tail) refl

pub below-nil : (t : Tree) → IsNil t → (k : Name) → below k t ≡ None
below-nil t e k = ap (find name_cmp k) e

pub nil_one : (t u : Tree) → IsNil t → IsNil u → t ≡ u
nil_one t u e f = same_edges t u (tree_unmarked t) (tree_unmarked u) (e ∙ sym f)

pub item_one : (x r t u : Tree) → IsItem x r t → IsItem x r u → t ≡ u
item_one x r t u e f = same_edges t u (tree_unmarked t) (tree_unmarked u) (e ∙ sym f)

pub one_head : (x r y s t : Tree) → IsItem x r t → IsItem y s t → x ≡ y
one_head x r y s t e f = same_Some x y (sym (below-head x r t e) ∙ below-head y s t f)

pub one_tail : (x r y s t : Tree) → IsItem x r t → IsItem y s t → r ≡ s
one_tail x r y s t e f = same_Some r s (sym (below-tail x r t e) ∙ below-tail y s t f)

pub nil_item : (x r t : Tree) → IsNil t → IsItem x r t → ⊥
nil_item x r t e f = none-some x (sym (below-nil t e head) ∙ below-head x r t f)

pub some_nil : (t : Tree) × IsNil t
some_nil = (node [], edges-node [] tt)

rises : (x r : Tree) → T (is_sorted name_cmp ((head, x) ∷ (tail, r) ∷ []))
unfolding name_cmp
rises x r = tt

item_edges : (x r : Tree) → T (are_edges ((head, x) ∷ (tail, r) ∷ []))
item_edges x r =
    edges_from ((head, x) ∷ (tail, r) ∷ []) (rises x r)
    (both (is_utf8 head) (is_utf8 tail && true) (ascii_test head refl) (both (is_utf8 tail) true (ascii_test tail refl) tt))

pub some_item : (x r : Tree) → (t : Tree) × IsItem x r t
some_item x r = (node ((head, x) ∷ (tail, r) ∷ []), edges-node ((head, x) ∷ (tail, r) ∷ []) (item_edges x r))
