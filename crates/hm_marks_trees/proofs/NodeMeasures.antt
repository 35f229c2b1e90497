-- How many folders nest in nodes, and how deep their tree is.
use Rattle.std.proofs.Common.{◌≡◌, ℕ, ◌+◌, ◌<◌, ◌≤◌, max, nat_lt, cond, false, T, List, [], ◌∷◌, ◌++◌, Option, Some, None, refl, sym, ap, subst, ◌∙◌, arith}
use Rattle.hm_tree.specs.Names.{Name}
use Rattle.hm_tree.specs.Nodes.{Tree, node, edges, are_edges, empty, depth, deepest}
use Rattle.hm_tree.specs.NodeLaws.{depth-edges, edges-node, edges_empty}
use Rattle.hm_tree_parts.specs.Edges.{IsEdge}
use Rattle.hm_book_items.specs.ItemTrees.{IsDepthOfLists}
use Rattle.hm_book_items.proofs.Lists.{one_more}
use Rattle.hm_book_items.proofs.ItemDepths.{depths_of, depth_by_items}
use Rattle.hm_format.specs.Formats.{depth_over}
use Rattle.hm_marks.specs.Contents.{nothing, a_link, a_folder}
use Rattle.hm_marks.specs.FolderTrees.{ShowItems, show_nothing, show_link, show_folder, IsContentsTree}
use Rattle.hm_marks_schema.specs.Bookmarks.{AreBookmarks, HaveUtf8Texts}
use Rattle.hm_marks_schema.specs.Nesting.{nesting, folders_deep, marks_over}
use Rattle.hm_marks_schema.specs.Schema.{bar_name, other_name}
use Rattle.hm_marks_schema.proofs.TopNode.{both_fit}
use Rattle.hm_marks_schema.proofs.Nesting.{folders_nest}
use Rattle.hm_marks_schema.proofs.SomeTree.{tree_of_both}
use Rattle.hm_marks_schema.proofs.WholeFiles.{bookmarks_once}
use Rattle.hm_marks_trees.specs.declared.node.Node.{Node}
use Rattle.hm_marks_trees.specs.Nodes.{Plain, PlainItem, plain, in_front, view, contents, IsItemOf}
use Rattle.hm_marks_trees.specs.Trees.{AreShallow, AreOver, item_nesting, HasUtf8Texts, HasDepthOf, AreDepthsOf, IsDepthOf}

-- ---- how many folders nest

in_front_nesting : (i : PlainItem) (c : Plain) → nesting (in_front i c) ≡ max (item_nesting i) (nesting c)
in_front_nesting (a_link l) c = omega arith
in_front_nesting (a_folder k inside) c = refl

in_front_texts : (i : PlainItem) (c : Plain) → HasUtf8Texts i → HaveUtf8Texts plain c → HaveUtf8Texts plain (in_front i c)
in_front_texts (a_link l) c h rest = (h, rest)
in_front_texts (a_folder k inside) c h rest = (h.0, h.1, rest)

behind_nesting : (xs : List Node) (n : Node) → nesting (contents (xs ++ n ∷ [])) ≡ max (item_nesting (view n)) (nesting (contents xs))
behind_nesting [] n = in_front_nesting (view n) nothing
behind_nesting (x ∷ xs) n =
    let whole = in_front_nesting (view x) (contents (xs ++ n ∷ [])) in
    let rest = behind_nesting xs n in
    let first = in_front_nesting (view x) (contents xs) in
    omega (arith, whole, rest, first)

texts_behind : (xs : List Node) (n : Node) → HaveUtf8Texts plain (contents xs) → HasUtf8Texts (view n) → HaveUtf8Texts plain (contents (xs ++ n ∷ []))
texts_behind [] n h mine = in_front_texts (view n) nothing mine tt
texts_behind (x ∷ xs) n h mine =
    let parts = in_front_parts (view x) (contents xs) h in in_front_texts (view x) (contents (xs ++ n ∷ [])) parts.0 (texts_behind xs n parts.1 mine)
  where
    in_front_parts : (i : PlainItem) (c : Plain) → HaveUtf8Texts plain (in_front i c) → HasUtf8Texts i × HaveUtf8Texts plain c
    in_front_parts (a_link l) c h = (h.0, h.1)
    in_front_parts (a_folder k inside) c h = ((h.0, h.1), h.2)

-- of the nodes so far
pub record AreCounted (xs : List Node) (most : ℕ) : Type 0 where
  pub most_is : most ≡ nesting (contents xs)
  pub texts : HaveUtf8Texts plain (contents xs)

pub none_counted : AreCounted [] 0
none_counted = record { most_is = refl; texts = tt }

pub one_counted : (xs ys : List Node) (n : Node) (most found more : ℕ) → AreCounted xs most → ys ≡ xs ++ n ∷ [] → found ≡ item_nesting (view n) → HasUtf8Texts (view n)
    → more ≡ max found most → AreCounted ys more
one_counted xs ys n most found more so next is texts taken = subst (λ l. AreCounted l more) (sym next) (record {
  most_is = (let whole = behind_nesting xs n in omega (arith, so.most_is, is, taken, whole));
  texts = texts_behind xs n so.texts texts;
})

-- ---- how deep the tree is

depth_edge : (n : Name) (x t : Tree) → IsEdge n x t → depth t ≡ depth x + 1
depth_edge n x t is = let whole = depth-edges t ∙ ap deepest is in omega (arith, whole)

pub link_depth : (l : Name × Name) (key : Name) → key ≡ l.0 → HasDepthOf (a_link l) (key, 2)
link_depth l key named x is =
    let inner = depth_edge _ _ is.1.value is.1.text in
    let whole = depth_edge _ is.1.value x.1 is.1.below in
    let none : depth (empty {m = false}) ≡ 0 = depth-edges _ ∙ ap deepest edges_empty in
    let two : 2 ≡ depth x.1 = omega (arith, inner, whole, none) in
    λ i. ((named ∙ sym is.0) i, two i)

pub folder_depth : (k key : Name) (inside : Plain) (found more : ℕ) → key ≡ k → IsDepthOf inside found → more ≡ found + 1 → HasDepthOf (a_folder k inside) (key, more)
folder_depth k key inside found more named is one x item =
    let u = item.1.0 in
    let whole = depth_edge _ u x.1 item.1.1.0 in
    let here = is u item.1.1.1 in
    let all : more ≡ depth x.1 = omega (arith, whole, here, one) in
    λ i. ((named ∙ sym item.0) i, all i)

-- the items that nodes show
record IsShown (i : PlainItem) (c : Plain) (xs : List (Name × Tree)) : Type 0 where
  first : Name × Tree
  rest : List (Name × Tree)
  all : xs ≡ first ∷ rest
  item : IsItemOf i first
  show : ShowItems plain c rest

shown : (i : PlainItem) (c : Plain) (xs : List (Name × Tree)) → ShowItems plain (in_front i c) xs → IsShown i c xs
shown (a_link l) c _ (show_link {t = t} {items = xs} is m) = record { first = (l.0, t); rest = xs; all = refl; item = (refl, is); show = m }
shown (a_folder k inside) c _ (show_folder {u = u} {t = t} {inner = inner} {items = xs} a tree is m) = record {
  first = (k, t);
  rest = xs;
  all = refl;
  item = (refl, (u, (is, record { items = inner; show = a; tree = tree })));
  show = m;
}

same_depths : (nodes : List Node) (ds : List (Name × ℕ)) (xs : List (Name × Tree)) → AreDepthsOf nodes ds → ShowItems plain (contents nodes) xs → ds ≡ depths_of depth xs
same_depths [] [] _ all show_nothing = refl
same_depths [] (d ∷ ds) xs all show = absurd all
same_depths (n ∷ nodes) [] xs all show = absurd all
same_depths (n ∷ nodes) (d ∷ ds) xs all show =
    let s = shown (view n) (contents nodes) xs show in
    (λ i. all.0 s.first s.item i ∷ same_depths nodes ds s.rest all.1 s.show i) ∙ ap (depths_of depth) (sym s.all)

pub depth_known : (nodes : List Node) (ds : List (Name × ℕ)) (found : ℕ) → AreDepthsOf nodes ds → IsDepthOfLists (λ n. n) ds found → IsDepthOf (contents nodes) found
depth_known nodes ds found all known t is =
    depth_by_items is.items t found is.tree (subst (λ l. IsDepthOfLists (λ n. n) l found) (same_depths nodes ds is.items all is.show) known)

-- of the nodes so far
pub one_depth : (xs ys : List Node) (ds es : List (Name × ℕ)) (n : Node) (d : Name × ℕ) → AreDepthsOf xs ds → ys ≡ xs ++ n ∷ [] → es ≡ ds ++ d ∷ []
    → HasDepthOf (view n) d → AreDepthsOf ys es
one_depth xs ys ds es n d so next more is =
    subst (λ l. AreDepthsOf l es) (sym next)
    (subst (AreDepthsOf (xs ++ n ∷ [])) (sym more) (one_more (λ (n : Node) (d : Name × ℕ). HasDepthOf (view n) d) xs ds n d so is))

-- ---- the whole

module _ (bar other : Plain) (bar_texts : HaveUtf8Texts plain bar) (other_texts : HaveUtf8Texts plain other) (nested : ℕ)
    (nested_is : nested ≡ max (nesting bar) (nesting other)) where
  the_tree : (t : Tree) × AreBookmarks plain bar other t
  the_tree = tree_of_both plain bar other bar_texts other_texts

  same_nested : nested ≡ folders_deep the_tree.0
  same_nested = nested_is ∙ sym (folders_nest plain bar other the_tree.0 the_tree.1)

  pub over_nested : 50 < nested → AreOver bar other (Some nested)
  over_nested over = record {
    tree = the_tree.0;
    is = the_tree.1;
    over_is = subst (λ n. cond (nat_lt 50 n) (Some n) (depth_over the_tree.0) ≡ Some nested) same_nested (grind arith);
  }

  module _ (few : nested ≤ 50) (bar_depth other_depth found : ℕ) (bar_is : IsDepthOf bar bar_depth) (other_is : IsDepthOf other other_depth)
      (found_is : found ≡ max bar_depth other_depth + 1) where
    same_depth : found ≡ depth the_tree.0
    same_depth =
        let whole = depth-edges the_tree.0 ∙ ap deepest the_tree.1.tree in
        let b = bar_is the_tree.1.bar_tree the_tree.1.bar in
        let o = other_is the_tree.1.other_tree the_tree.1.other in
        omega (arith, whole, b, o, found_is)

    told : (over : Option ℕ) → cond (nat_lt 50 nested) (Some nested) (cond (nat_lt 1000 found) (Some found) None) ≡ over → AreOver bar other over
    told over is = record {
      tree = the_tree.0;
      is = the_tree.1;
      over_is = subst (λ d. cond (nat_lt 50 (folders_deep the_tree.0)) (Some (folders_deep the_tree.0)) (cond (nat_lt 1000 d) (Some d) None) ≡ over) same_depth
          (subst (λ n. cond (nat_lt 50 n) (Some n) (cond (nat_lt 1000 found) (Some found) None) ≡ over) same_nested is);
    }

    pub over_deepest : 1000 < found → AreOver bar other (Some found)
    over_deepest over = told (Some found) (grind arith)

    pub not_over : found ≤ 1000 → AreOver bar other None
    not_over within = told None (grind arith)

-- a tree of the nodes, of which nothing is over the limits
pub shallow : (bar other : Plain) (t bar_tree other_tree : Tree) → AreOver bar other None → edges t ≡ (bar_name, bar_tree) ∷ (other_name, other_tree) ∷ []
    → IsContentsTree plain bar bar_tree → IsContentsTree plain other other_tree → AreShallow bar other t
shallow bar other t bar_tree other_tree limits both b o =
    let is : AreBookmarks plain bar other t = record { bar_tree = bar_tree; other_tree = other_tree; tree = both; bar = b; other = o } in
    record { is = is; within = subst (λ u. marks_over u ≡ None) (bookmarks_once plain bar other limits.tree t limits.is is) limits.over_is }

-- ---- the two edges of the whole

module _ (n k : Name) (b o : Tree) (es fs gs : List (Name × Tree)) (first : n ≡ bar_name) (second : k ≡ other_name) (none : es ≡ [])
    (more : fs ≡ es ++ (n, b) ∷ []) (all : gs ≡ fs ++ (k, o) ∷ []) where
  both_made : gs ≡ (bar_name, b) ∷ (other_name, o) ∷ []
  both_made = all ∙ ap (λ l. l ++ (k, o) ∷ []) (more ∙ ap (λ l. l ++ (n, b) ∷ []) none) ∙ (λ i. (first i, b) ∷ (second i, o) ∷ [])

  pub edges_fit : T (are_edges gs)
  edges_fit = subst (λ l. T (are_edges l)) (sym both_made) (both_fit b o)

  pub both_edges : (t : Tree) → t ≡ node gs → edges t ≡ (bar_name, b) ∷ (other_name, o) ∷ []
  both_edges t is = ap edges is ∙ edges-node gs edges_fit ∙ both_made
