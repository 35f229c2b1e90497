-- The items of nodes are what they show.
use Rattle.std.proofs.Common.{◌≡◌, List, [], ◌∷◌, ◌++◌, length, sym, ap, ◌∙◌, subst, rules}
use Rattle.std.specs.Prelude.{Vec}
use Rattle.std.specs.declared.alloc.Global.{Global}
use Rattle.std.specs.declared.vec.IntoIter.{IntoIter}
use Rattle.std.specs.Vec.Iter.{into_iter_items, into_iter_len, into_iter_steps}
use Rattle.std.specs.Iterator.{Yields}
use Rattle.std.proofs.lemmas.List.{append-nil}
use Rattle.hm_facts.proofs.Lists.{no_items}
use Rattle.hm_tree.specs.Names.{Name}
use Rattle.hm_tree.specs.Nodes.{Tree}
use Rattle.hm_book_items.proofs.Lists.{one_more as one_zipped}
use Rattle.hm_marks.specs.Contents.{a_link, a_folder}
use Rattle.hm_marks.specs.FolderTrees.{ShowItems, show_nothing, show_link, show_folder}
use Rattle.hm_marks_trees.specs.declared.node.Node.{Node, the_lemmas}
use Rattle.hm_marks_trees.specs.declared.node.Node.TheVariants.{Link, Folder}
use Rattle.hm_marks_trees.specs.Nodes.{Plain, PlainItem, plain, in_front, view, contents, IsItemOf, AreItemsOf}

-- a link, and a folder by what stands in it
pub view_link : (k n : Name) → view (Link k n) ≡ a_link (k, n)
view_link k n = search (rules, the_lemmas)

pub view_folder : (k : Name) (v : Vec Node Global) → view (Folder k v) ≡ a_folder k (contents v.items)
view_folder k v = search (rules, the_lemmas)

show_one : (i : PlainItem) (x : Name × Tree) (c : Plain) (xs : List (Name × Tree)) → IsItemOf i x → ShowItems plain c xs → ShowItems plain (in_front i c) (x ∷ xs)
show_one (a_link l) x c xs is rest = subst (λ k. ShowItems plain (in_front (a_link l) c) ((k, x.1) ∷ xs)) (sym is.0) (show_link is.1 rest)
show_one (a_folder k inside) x c xs is rest =
    let mine = is.1.1.1 in
    subst (λ j. ShowItems plain (in_front (a_folder k inside) c) ((j, x.1) ∷ xs)) (sym is.0) (show_folder mine.show mine.tree is.1.1.0 rest)

pub show_all : (nodes : List Node) (items : List (Name × Tree)) → AreItemsOf nodes items
    → ShowItems plain (contents nodes) items
show_all [] [] all = show_nothing
show_all [] (x ∷ xs) all = absurd all
show_all (n ∷ nodes) [] all = absurd all
show_all (n ∷ nodes) (x ∷ xs) all = show_one (view n) x (contents nodes) xs all.0 (show_all nodes xs all.1)

pub one_more : (nodes : List Node) (items new : List (Name × Tree)) (n : Node) (x : Name × Tree) → AreItemsOf nodes items → IsItemOf (view n) x
    → new ≡ items ++ x ∷ [] → AreItemsOf (nodes ++ n ∷ []) new
one_more nodes items new n x all is e =
    subst (AreItemsOf (nodes ++ n ∷ [])) (sym e) (one_zipped (λ (n : Node) (x : Name × Tree). IsItemOf (view n) x) nodes items n x all is)

-- what the iterator of a vector has given is a front of its items
pub taken_front : {X A : Type 0} (s : IntoIter X A) (xs : List X) (t : IntoIter X A) → Yields into_iter_steps s xs t → into_iter_items s ≡ xs ++ into_iter_items t
taken_front s [] t y = ap into_iter_items y
taken_front s (x ∷ xs) t y = y.1.0 ∙ ap (λ ys. x ∷ ys) (taken_front y.0 xs t y.2)

len_is : (u : IntoIter Node Global) → length (into_iter_items u) ≡ into_iter_len u
len_is u = search rules

pub all_taken : (s u : IntoIter Node Global) (nodes xs : List Node) → Yields into_iter_steps s xs u → into_iter_items s ≡ nodes → into_iter_len u ≡ 0 → xs ≡ nodes
all_taken s u nodes xs taken is over =
    sym (append-nil xs) ∙ ap (λ l. xs ++ l) (sym (no_items (into_iter_items u) (len_is u ∙ over))) ∙ sym (taken_front s xs u taken) ∙ is
