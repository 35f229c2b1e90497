-- The parts of a tree of bookmarks: its two folders, and the one edge of an item.
use Rattle.std.proofs.Common.{◌≡◌, ◌<◌, ℕ, true, false, true≢false, List, [], ◌∷◌, Some, slice_get, length, inl, inr, sym, ap, ◌∙◌, subst, arith, get_or}
use Rattle.std.specs.Prelude.{◌⊎◌}
use Rattle.std.specs.Str.{bytes_eq}
use Rattle.std.proofs.lemmas.Option.{same_Some}
use Rattle.std.proofs.lemmas.Slice.Eq.{bytes_eq-Decides}
use Rattle.hm_tree.specs.Classes.{IsClean}
use Rattle.hm_tree.specs.Names.{Name}
use Rattle.hm_tree.specs.Nodes.{Tree, edges}
use Rattle.hm_schema.specs.Membership.{IsMemberTree}
use Rattle.hm_tree_parts.specs.Edges.{IsEdge, IsValue, HasOneEdge, names}
use Rattle.hm_marks.specs.FolderTrees.{folder_name, url_name, IsLinkTree, IsFolderTree}
use Rattle.hm_marks.proofs.OneLink.{names_apart}
use Rattle.hm_marks_schema.specs.Schema.{bar_name, other_name, marks_schema}
use Rattle.hm_marks_schema.specs.Members.{IsAt, HasAddress, AreFoldersOf}
use Rattle.hm_marks_schema.proofs.Nodes.{link_alike}
use Rattle.hm_marks_schema.proofs.ItemNodes.{item_alike}
use Rattle.hm_marks_schema.proofs.TopNode.{top_alike}

-- ---- the two folders

module _ (t : Tree) (member : IsMemberTree marks_schema t) where
  pub two_edges : length (edges t) ≡ 2
  two_edges = ap length (top_alike.into t member).tree

  pub the_two : (k j : Name) (b o : Tree) → slice_get (edges t) 0 ≡ Some (k, b) → slice_get (edges t) 1 ≡ Some (j, o) → AreFoldersOf t b o
  the_two k j b o first second =
      let h = top_alike.into t member in
      let bars = ap (λ (e : Name × Tree). e.1) (same_Some (bar_name, h.bar_tree) (k, b) (sym (ap (λ es. slice_get es 0) h.tree) ∙ first)) in
      let others = ap (λ (e : Name × Tree). e.1) (same_Some (other_name, h.other_tree) (j, o) (sym (ap (λ es. slice_get es 1) h.tree) ∙ second)) in
      record {
        tree = h.tree ∙ (λ i. (bar_name, bars i) ∷ (other_name, others i) ∷ []);
        bar = subst (IsAt 1) bars h.bar;
        other = subst (IsAt 1) others h.other;
      }

-- ---- an item

one_edge : (n : Name) (x t : Tree) → IsEdge n x t → 0 < length (edges t)
one_edge n x t is = subst (λ (es : List (Name × Tree)). 0 < length es) (sym is) (omega arith)

pub has_edge : (t : Tree) → IsAt 3 t → 0 < length (edges t)
has_edge t at = go (item_alike.into t at)
  where
    go : ((u : Tree) × IsEdge folder_name u t × IsAt 1 u) ⊎ ((v : Tree) × IsEdge url_name v t × IsAt 4 v) → 0 < length (edges t)
    go (inl f) = one_edge folder_name f.0 t f.1
    go (inr l) = one_edge url_name l.0 t l.1

first_edge : (n : Name) (x t : Tree) (e : Name × Tree) → IsEdge n x t → slice_get (edges t) 0 ≡ Some e → (n, x) ≡ e
first_edge n x t e is at = same_Some (n, x) e (sym (ap (λ (es : List (Name × Tree)). slice_get es 0) is) ∙ at)

-- texts that were compared
pub told_same : (a b : List ℕ) → true ≡ bytes_eq a b → a ≡ b
told_same a b e = (bytes_eq-Decides a b).0 (sym e)

pub told_other : (a b : List ℕ) → false ≡ bytes_eq a b → a ≡ b → ⊥
told_other a b e same = true≢false (sym ((bytes_eq-Decides a b).1 same) ∙ sym e)

pub a_folder_below : (t : Tree) (e : Name × Tree) → IsAt 3 t → slice_get (edges t) 0 ≡ Some e → e.0 ≡ folder_name → IsFolderTree e.1 t × IsAt 1 e.1
a_folder_below t e at is named = go (item_alike.into t at)
  where
    go : ((u : Tree) × IsEdge folder_name u t × IsAt 1 u) ⊎ ((v : Tree) × IsEdge url_name v t × IsAt 4 v) → IsFolderTree e.1 t × IsAt 1 e.1
    go (inl f) = let same = ap (λ (e : Name × Tree). e.1) (first_edge folder_name f.0 t e f.1 is) in (subst (λ u. IsFolderTree u t) same f.1, subst (IsAt 1) same f.2)
    go (inr l) = absurd (names_apart (ap (λ (e : Name × Tree). e.0) (first_edge url_name l.0 t e l.1 is) ∙ named))

-- a link's address, below its edge
pub record HasLink (t below : Tree) : Type 0 where
  pub edge : IsEdge url_name below t
  pub address : HasAddress below

pub a_link_below : (t : Tree) (e : Name × Tree) → IsAt 3 t → slice_get (edges t) 0 ≡ Some e → (e.0 ≡ folder_name → ⊥) → HasLink t e.1
a_link_below t e at is named = go (item_alike.into t at)
  where
    go : ((u : Tree) × IsEdge folder_name u t × IsAt 1 u) ⊎ ((v : Tree) × IsEdge url_name v t × IsAt 4 v) → HasLink t e.1
    go (inl f) = absurd (named (sym (ap (λ (e : Name × Tree). e.0) (first_edge folder_name f.0 t e f.1 is))))
    go (inr l) =
        let same = ap (λ (e : Name × Tree). e.1) (first_edge url_name l.0 t e l.1 is) in
        record { edge = subst (λ v. IsEdge url_name v t) same l.1; address = subst HasAddress same (link_alike.into l.0 l.2) }

pub one_name : (v : Tree) → HasAddress v → HasOneEdge v
one_name v h = ap (λ (es : List (Name × Tree)). length es) h.is

pub address_is : (t v : Tree) (n : Name) → HasLink t v → names v ≡ n ∷ [] → IsLinkTree n t × IsClean n
address_is t v n h are =
    let same : h.address.text ≡ n = ap (λ (l : List Name). get_or l 0 []) (sym (ap (λ (es : List (Name × Tree)). names_in es) h.address.is) ∙ are) in (
      record { value = v; below = h.edge; text = subst (λ k. IsValue k v) same h.address.is },
      subst IsClean same h.address.clean,
    )
  where
    names_in : List (Name × Tree) → List Name
    names_in [] = []
    names_in (e ∷ es) = e.0 ∷ names_in es
