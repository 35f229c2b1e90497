-- Trees as finite maps.
use Rattle.std.proofs.Common.{◌≡◌, Bool, true, false, cond, not, Option, Some, None, is_some, refl, sym, ap, subst, ◌∙◌}
use Rattle.std.specs.List.{list_any}
use Rattle.std.specs.Ordering.{eq_by_cmp}
use Rattle.std.specs.Str.{IsUtf8}
use Rattle.std.proofs.lemmas.Cmp.{tied_itself}
use Rattle.std.specs.FinMap.Entries.{same_entries, is_some-find}
use mathlib.Core.Bool.{true≢false}
use Rattle.hm_facts.proofs.Options.{is_there}
use Rattle.hm_tree.specs.Names.{Name, name_cmp}
use Rattle.hm_tree.specs.Nodes.{Tree, edges, below, with_edge, without_edge}
use Rattle.hm_tree.specs.NodeLaws.{edges_sorted, same_edges, tree_unmarked}
use Rattle.hm_tree.specs.Parts.{Joins}
use Rattle.hm_tree.proofs.Sorted.{below_with, name_total, name_one}
use Rattle.hm_tree.proofs.Parted.{below-part}
use Rattle.hm_tree.proofs.Utf8Names.{below_utf8}
use Rattle.hm_tree_parts.specs.Edges.{names}
use Rattle.hm_tree.proofs.NameSets.{tied_one}

-- trees with the same children are equal
pub same_children : (t u : Tree) → ((k : Name) → below k t ≡ below k u) → t ≡ u
same_children t u e = same_edges t u (tree_unmarked t) (tree_unmarked u)
    (same_entries name_cmp name_total name_one (edges t) (edges u) (edges_sorted t) (edges_sorted u) e)

-- trees with the same names have something under the same ones
pub below_names : (t u : Tree) → names t ≡ names u → (k : Name) → is_some (below k t) ≡ is_some (below k u)
below_names t u e k = is_some-find name_cmp k (edges t) ∙ ap (list_any (eq_by_cmp name_cmp k)) e ∙ sym (is_some-find name_cmp k (edges u))

-- what stands under a name of a tree with the same names
pub beside : (t u : Tree) → names t ≡ names u → (k : Name) (x : Tree) → below k t ≡ Some x → (y : Tree) × (below k u ≡ Some y)
beside t u e k x at = is_there (below k u) (sym (below_names t u e k) ∙ ap is_some at)

pub same_options : {A : Type 0} (x y : Option A) → is_some x ≡ is_some y → ((a b : A) → x ≡ Some a → y ≡ Some b → a ≡ b) → x ≡ y
same_options None None e f = refl
same_options None (Some b) e f = absurd (true≢false (sym e))
same_options (Some a) None e f = absurd (true≢false e)
same_options (Some a) (Some b) e f = ap Some (f a b refl refl)

pub same_each : (t u : Tree) → names t ≡ names u → ((k : Name) (x y : Tree) → below k t ≡ Some x → below k u ≡ Some y → x ≡ y) → t ≡ u
same_each t u e f = same_children t u (λ k. same_options (below k t) (below k u) (below_names t u e k) (λ a b. f k a b))

pub joined_one : (x y t u : Tree) → Joins x y t → Joins x y u → t ≡ u
joined_one x y t u j i = same_children t u (λ k. j.all k ∙ sym (i.all k))

-- ---- an edge taken out and put in

pub tied : (a b : Name) → a ≡ b → eq_by_cmp name_cmp a b ≡ true
tied a b e = subst (λ b. eq_by_cmp name_cmp a b ≡ true) e (rw (tied_itself name_total a) refl)

pub below-without : (n : Name) (t : Tree) (q : Name) → below q (without_edge n t) ≡ cond (not (eq_by_cmp name_cmp n q)) (below q t) None
below-without n t q = below-part (λ x. not (eq_by_cmp name_cmp n x)) t q

-- taking out an edge that was put in where there was none
pub without_with : (n : Name) (x c : Tree) → IsUtf8 n → below n c ≡ None → without_edge n (with_edge n x c) ≡ c
without_with n x c text none = same_children _ c (λ q. below-without n (with_edge n x c) q ∙ go q (eq_by_cmp name_cmp n q) refl)
  where
    go : (q : Name) (b : Bool) → eq_by_cmp name_cmp n q ≡ b → cond (not b) (below q (with_edge n x c)) None ≡ below q c
    go q true e = sym (ap (λ q. below q c) (sym (tied_one n q e)) ∙ none)
    go q false e = below_with q n x c text ∙ other (eq_by_cmp name_cmp q n) refl
      where
        other : (b : Bool) → eq_by_cmp name_cmp q n ≡ b → cond b (Some x) (below q c) ≡ below q c
        other true f = absurd (true≢false (sym (tied n q (sym (tied_one q n f))) ∙ e))
        other false f = refl

-- putting back an edge that was taken out
pub with_without : (n : Name) (x v : Tree) → below n v ≡ Some x → v ≡ with_edge n x (without_edge n v)
with_without n x v at = same_children v _ (λ q. sym (below_with q n x (without_edge n v) (below_utf8 v n x at) ∙ go q (eq_by_cmp name_cmp q n) refl))
  where
    go : (q : Name) (b : Bool) → eq_by_cmp name_cmp q n ≡ b → cond b (Some x) (below q (without_edge n v)) ≡ below q v
    go q true e = sym (ap (λ q. below q v) (tied_one q n e) ∙ at)
    go q false e = below-without n v q ∙ other (eq_by_cmp name_cmp n q) refl
      where
        other : (b : Bool) → eq_by_cmp name_cmp n q ≡ b → cond (not b) (below q v) None ≡ below q v
        other true f = absurd (true≢false (sym (tied q n (sym (tied_one n q f))) ∙ e))
        other false f = refl
