-- What stands behind a keyword has one form.
use Rattle.std.proofs.Common.{◌≡◌, ℕ, ◌<◌, List, [], ◌∷◌, IsUtf8, T, refl, ap, subst, sym, ◌∙◌, arith}
use Rattle.hm_tree.specs.Names.{Name}
use Rattle.hm_tree.proofs.Texts.{text_test}
use Rattle.hm_tree.specs.Nodes.{Tree, depth, are_edges, edges_cons}
use Rattle.hm_schema.specs.Values.{Names}
use Rattle.hm_terms.specs.Lenses.{Lens}
use Rattle.hm_focal_terms.specs.declared.keyword.Keyword.TheVariants.{Const, Hoist, Plunge, Copy, Merge, Text, Call, Filter, Prune, Focus, Add, Rename}
use Rattle.hm_focal_terms.specs.Fronts.{IsWord, IsEdge, IsTree, IsSet, One, Two}
use Rattle.hm_focal_terms.specs.FrontLaws.{one_edge, one_tree}
use Rattle.hm_focal_terms.proofs.Arguments.{two_once}
use Rattle.hm_focal_terms.specs.Derived.{under_name}
use Rattle.hm_focal_terms.specs.TermText.{IsForm, const_form, hoist_form, plunge_form, copy_form, merge_form, text_form, call_form, filter_form, prune_form, focus_form, add_form, rename_form}

pub no_const : {bytes : List ℕ} → ((x : Tree) (y : Tree) (r : List ℕ) → Two IsTree IsTree bytes x y r → ⊥) → (l : Lens) (r : List ℕ)
    → IsForm Const bytes l r → ⊥
no_const none _ r (const_form p) = none _ _ r p

pub no_hoist : {bytes : List ℕ} → ((x : Name) (r : List ℕ) → One IsEdge bytes x r → ⊥) → (l : Lens) (r : List ℕ) → IsForm Hoist bytes l r → ⊥
no_hoist none _ r (hoist_form p) = none _ r p

pub no_plunge : {bytes : List ℕ} → ((x : Name) (r : List ℕ) → One IsEdge bytes x r → ⊥) → (l : Lens) (r : List ℕ) → IsForm Plunge bytes l r → ⊥
no_plunge none _ r (plunge_form p) = none _ r p

pub no_copy : {bytes : List ℕ} → ((x : Name) (y : Name) (r : List ℕ) → Two IsEdge IsEdge bytes x y r → ⊥) → (l : Lens) (r : List ℕ)
    → IsForm Copy bytes l r → ⊥
no_copy none _ r (copy_form p) = none _ _ r p

pub no_merge : {bytes : List ℕ} → ((x : Name) (y : Name) (r : List ℕ) → Two IsEdge IsEdge bytes x y r → ⊥) → (l : Lens) (r : List ℕ)
    → IsForm Merge bytes l r → ⊥
no_merge none _ r (merge_form p) = none _ _ r p

pub no_text : {bytes : List ℕ} → ((x : Name) (r : List ℕ) → One IsWord bytes x r → ⊥) → (l : Lens) (r : List ℕ) → IsForm Text bytes l r → ⊥
no_text none _ r (text_form p) = none _ r p

pub no_call : {bytes : List ℕ} → ((x : Name) (r : List ℕ) → One IsWord bytes x r → ⊥) → (l : Lens) (r : List ℕ) → IsForm Call bytes l r → ⊥
no_call none _ r (call_form p) = none _ r p

pub no_filter : {bytes : List ℕ} → ((x : Names) (y : Tree) (r : List ℕ) → Two IsSet IsTree bytes x y r → ⊥) → (l : Lens) (r : List ℕ)
    → IsForm Filter bytes l r → ⊥
no_filter none _ r (filter_form p) = none _ _ r p

pub no_focus : {bytes : List ℕ} → ((x : Name) (y : Tree) (r : List ℕ) → Two IsEdge IsTree bytes x y r → ⊥) → (l : Lens) (r : List ℕ)
    → IsForm Focus bytes l r → ⊥
no_focus none _ r (focus_form p) = none _ _ r p

pub no_add : {bytes : List ℕ} → ((x : Name) (y : Tree) (r : List ℕ) → Two IsEdge IsTree bytes x y r → ⊥) → (l : Lens) (r : List ℕ)
    → IsForm Add bytes l r → ⊥
no_add none _ r (add_form p) = none _ _ r p

pub no_rename : {bytes : List ℕ} → ((x : Name) (y : Name) (r : List ℕ) → Two IsEdge IsEdge bytes x y r → ⊥) → (l : Lens) (r : List ℕ)
    → IsForm Rename bytes l r → ⊥
no_rename none _ r (rename_form p) = none _ _ r p

-- a tree with an edge more that is too deep
module _ (bytes : List ℕ) where
  pub no_prune : ((n : Name) (d : Tree) (r : List ℕ) → Two IsEdge IsTree bytes n d r → ⊥) → (l : Lens) (r : List ℕ) → IsForm Prune bytes l r → ⊥
  no_prune none _ r (prune_form p shallow) = none _ _ r p

  pub too_deep : (n : Name) (d : Tree) (inner : List ℕ) → Two IsEdge IsTree bytes n d inner → (t : Tree) → t ≡ under_name n d → 1000 < depth t
      → (l : Lens) (r : List ℕ) → IsForm Prune bytes l r → ⊥
  too_deep n d inner p t e deep _ r (prune_form {n = m} {d = c} q shallow) =
      let o = two_once IsEdge IsTree one_edge one_tree bytes bytes n m d c inner r refl p q in
      let same : depth t ≡ depth (under_name m c) = ap depth e ∙ (λ i. depth (under_name (o.0 i) (o.1 i))) in
      absurd (omega arith)

-- one edge alone makes a tree
pub one_edge_made : (n : Name) (t : Tree) (es : List (Name × Tree)) → IsUtf8 n → es ≡ (n, t) ∷ [] → T (are_edges es)
one_edge_made n t es text e = subst (λ l. T (are_edges l)) (sym e) (edges_cons (n, t) [] (text_test n text) tt tt)
