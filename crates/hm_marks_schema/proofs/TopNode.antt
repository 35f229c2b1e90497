-- Which trees stand at the root of the schema of bookmarks: those of two edges, bar and other, each to a folder.
use Rattle.std.proofs.Common.{◌≡◌, Bool, true, false, cond, ◌||◌, ◌&&◌, T, [], ◌∷◌, Some, None, map, refl, sym, ap, subst, ◌∙◌}
use Rattle.std.proofs.lemmas.Bool.{true≢false, or_left, or_right, or_from}
use Rattle.std.proofs.lemmas.Option.{same_Some, none-some}
use Rattle.std.specs.Ordering.{eq_by_cmp}
use Rattle.std.specs.FinMap.{is_sorted, find}
use Rattle.std.specs.FinSet.{contains, from_list, contains-from_list}
use Rattle.std.specs.Str.{is_utf8}
use Rattle.hm_facts.proofs.Options.{is_there}
use Rattle.hm_tree.specs.Names.{Name, name_cmp}
use Rattle.hm_tree.specs.Nodes.{Tree, node, edges, below, are_edges, edges_from, both}
use Rattle.hm_tree.specs.NodeLaws.{edges-node}
use Rattle.hm_tree.proofs.Sorted.{name_total}
use Rattle.hm_tree.proofs.NameSets.{tied_one, tied_self}
use Rattle.hm_tree.proofs.Texts.{ascii_test}
use Rattle.hm_tree_parts.proofs.Maps.{same_children}
use Rattle.hm_schema.specs.Values.{Names, child_of}
use Rattle.hm_schema.specs.Permitted.{names_of}
use Rattle.hm_schema.specs.Standing.{Stands, Alike, IsBelow}
use Rattle.hm_schema.proofs.NamesOf.{names_of-below}
use Rattle.hm_schema.proofs.StandingTrees.{alike_then, members_alike, none_below, Inside}
use Rattle.hm_schema_lists.specs.Plain.{IsOf}
use Rattle.hm_schema_lists.proofs.Plain.{exact_of, exact_stands, stands_exact}
use Rattle.hm_book_cards.specs.Books.{id}
use Rattle.hm_book_cards.proofs.NodeShapes.{listed_names}
use Rattle.hm_marks_schema.specs.Schema.{bar_name, other_name, top_node, marks_schema}
use Rattle.hm_marks_schema.specs.Members.{IsAt, HasFolders}

abbrev top_names : Names
top_names = from_list (bar_name ∷ other_name ∷ [])

-- the edges of a tree are bar, to b, and other, to o
abbrev IsBoth : Tree → Tree → Tree → Type 0
IsBoth b o t = edges t ≡ (bar_name, b) ∷ (other_name, o) ∷ []

abbrev pub other_bar : eq_by_cmp name_cmp other_name bar_name ≡ false
unfolding name_cmp
other_bar = refl

-- ---- the node

bar_leads : child_of top_node bar_name ≡ Some (id 1)
unfolding name_cmp
bar_leads = refl

other_leads : child_of top_node other_name ≡ Some (id 1)
unfolding name_cmp
other_leads = refl

top_of : IsOf top_names top_node
top_of = exact_of top_node top_names refl refl (λ k at. sym (listed_names top_node.children k) ∙ at)

-- ---- a tree of these names

module _ (b o : Tree) where
  sorted : T (is_sorted name_cmp ((bar_name, b) ∷ (other_name, o) ∷ []))
  unfolding name_cmp
  sorted = tt

  pub both_fit : T (are_edges ((bar_name, b) ∷ (other_name, o) ∷ []))
  both_fit = edges_from ((bar_name, b) ∷ (other_name, o) ∷ []) sorted
      (both (is_utf8 bar_name) (is_utf8 other_name && true) (ascii_test bar_name refl) (both (is_utf8 other_name) true (ascii_test other_name refl) tt))

  pub some_both : (t : Tree) × IsBoth b o t
  some_both = (node ((bar_name, b) ∷ (other_name, o) ∷ []), edges-node ((bar_name, b) ∷ (other_name, o) ∷ []) both_fit)

  below_both : (t : Tree) → IsBoth b o t → (k : Name)
      → below k t ≡ cond (eq_by_cmp name_cmp k bar_name) (Some b) (cond (eq_by_cmp name_cmp k other_name) (Some o) None)
  below_both t e k = ap (find name_cmp k) e

module _ (t : Tree) (e : names_of t ≡ top_names) where
  has : (k : Name) → contains (names_of t) k ≡ (eq_by_cmp name_cmp k bar_name || (eq_by_cmp name_cmp k other_name || false))
  has k = ap (λ s. contains s k) e ∙ contains-from_list name_total (bar_name ∷ other_name ∷ []) k

  the_bar : (b : Tree) × (below bar_name t ≡ Some b)
  the_bar = is_there (below bar_name t) (sym (names_of-below t bar_name) ∙ has bar_name
      ∙ or_left (eq_by_cmp name_cmp bar_name bar_name) (eq_by_cmp name_cmp bar_name other_name || false) (tied_self bar_name))

  the_other : (o : Tree) × (below other_name t ≡ Some o)
  the_other = is_there (below other_name t) (sym (names_of-below t other_name) ∙ has other_name
      ∙ or_right (eq_by_cmp name_cmp other_name bar_name) (eq_by_cmp name_cmp other_name other_name || false)
      (or_left (eq_by_cmp name_cmp other_name other_name) false (tied_self other_name)))

  names_both : IsBoth the_bar.0 the_other.0 t
  names_both =
      let u = some_both the_bar.0 the_other.0 in
      subst (IsBoth the_bar.0 the_other.0) (same_children u.0 t (λ k. below_both the_bar.0 the_other.0 u.0 u.1 k
      ∙ go k (eq_by_cmp name_cmp k bar_name) refl (eq_by_cmp name_cmp k other_name) refl)) u.1
    where
      go : (k : Name) (p : Bool) → eq_by_cmp name_cmp k bar_name ≡ p → (q : Bool) → eq_by_cmp name_cmp k other_name ≡ q
          → cond p (Some the_bar.0) (cond q (Some the_other.0) None) ≡ below k t
      go k true p q f = sym (ap (λ k. below k t) (tied_one k bar_name p) ∙ the_bar.1)
      go k false p true f = sym (ap (λ k. below k t) (tied_one k other_name f) ∙ the_other.1)
      go k false p false f = sym (none_below t k (λ at. true≢false (sym at ∙ has k
          ∙ or_from (eq_by_cmp name_cmp k bar_name) (eq_by_cmp name_cmp k other_name || false) p (or_from (eq_by_cmp name_cmp k other_name) false f refl))))

-- ---- members at the root

below_is : (k : Name) (x : Tree) → child_of top_node k ≡ Some (id 1) → IsBelow (Inside marks_schema) top_node k x → IsAt 1 x
below_is k x leads b = subst (λ i. Inside marks_schema i x) (same_Some b.child (id 1) (sym b.is ∙ leads)) b.inside

to_top : (t : Tree) → Stands (Inside marks_schema) top_node t → HasFolders (IsAt 1) t
to_top t h =
    let e = stands_exact (Inside marks_schema) top_node top_names top_of t h in
    let b = the_bar t e in
    let o = the_other t e in
    record {
      bar_tree = b.0;
      other_tree = o.0;
      tree = names_both t e;
      bar = below_is bar_name b.0 bar_leads (h.children bar_name b.0 b.1);
      other = below_is other_name o.0 other_leads (h.children other_name o.0 o.1);
    }

from_top : (t : Tree) → HasFolders (IsAt 1) t → Stands (Inside marks_schema) top_node t
from_top t h = exact_stands (Inside marks_schema) top_node top_names top_of t (ap (λ es. from_list (map (λ (e : Name × Tree). e.0) es)) h.tree)
    (λ k x at. go k x (eq_by_cmp name_cmp k bar_name) refl (eq_by_cmp name_cmp k other_name) refl (sym (below_both h.bar_tree h.other_tree t h.tree k) ∙ at))
  where
    go : (k : Name) (x : Tree) (p : Bool) → eq_by_cmp name_cmp k bar_name ≡ p → (q : Bool) → eq_by_cmp name_cmp k other_name ≡ q
        → cond p (Some h.bar_tree) (cond q (Some h.other_tree) None) ≡ Some x → IsBelow (Inside marks_schema) top_node k x
    go k x true p q f at =
        record { child = id 1; is = ap (child_of top_node) (tied_one k bar_name p) ∙ bar_leads; inside = subst (IsAt 1) (same_Some h.bar_tree x at) h.bar }
    go k x false p true f at =
        record { child = id 1; is = ap (child_of top_node) (tied_one k other_name f) ∙ other_leads; inside = subst (IsAt 1) (same_Some h.other_tree x at) h.other }
    go k x false p false f at = absurd (none-some x at)

pub top_alike : Alike (IsAt 0) (HasFolders (IsAt 1))
top_alike = alike_then (members_alike marks_schema (id 0) top_node refl) (record { into = to_top; from = from_top })
