-- Pending edges: the last name among them, and the node that they make.
use Rattle.std.proofs.Common.{◌≡◌, ℕ, zero, suc, ◌-◌, ◌↔◌, ◌&&◌, true, T, List, [], ◌∷◌, ◌++◌, map, length, take, drop, Some, None, slice_get, refl, sym, ap, subst, ◌∙◌}
use Rattle.std.specs.Ordering.{is_lt}
use Rattle.std.specs.FinMap.{is_sorted}
use Rattle.std.specs.Str.{IsUtf8, is_utf8}
use Rattle.std.proofs.lemmas.List.{length-map, map-append, take_rest}
use Rattle.hm_tree.specs.Names.{Name, name_cmp}
use Rattle.hm_tree.specs.Nodes.{Node, Tree, node, empty, below_all, are_texts, are_edges, edges_rise}
use Rattle.hm_tree.specs.NodeLaws.{same_node, edges-node}
use Rattle.hm_tree.specs.Archives.{Archive, recorded, there, is_there}
use Rattle.hm_tree.proofs.Kept.{record_edge, recorded_view}
use Rattle.hm_tree_text.specs.Reading.{is_behind, IsAfter}
use Rattle.hm_tree_text.specs.Pending.{with_values, valued_edges, MakeNode}
use Rattle.hm_tree_text.proofs.Behind.{behind_after, edges_behind}

-- ---- edges of which none leads to what is missing

length_there : (es : List (Name × Archive)) → T (is_there es) → length (there es) ≡ length es
length_there [] h = refl
length_there ((k, None) ∷ es) h = absurd h
length_there ((k, Some n) ∷ es) h = ap suc (length_there es h)

there_at : (es : List (Name × Archive)) (i : ℕ) → T (is_there es) → (k : Name) (o : Archive) → slice_get es i ≡ Some (k, o)
    → (n : Node true) × (slice_get (there es) i ≡ Some (k, n))
there_at [] i h k o e = let no : ⊥ = cc in absurd no
there_at ((x, None) ∷ es) i h k o e = absurd h
there_at ((x, Some n) ∷ es) zero h k o e =
    let same : ◌≡◌ {A = Name × Archive} (x, Some n) (k, o) = cc in
    (n, λ i. Some ((same i).0, n))
there_at ((x, Some n) ∷ es) (suc i) h k o e = there_at es i h k o e

there-append : (es fs : List (Name × Archive)) → there (es ++ fs) ≡ there es ++ there fs
there-append [] fs = refl
there-append ((k, None) ∷ es) fs = there-append es fs
there-append ((k, Some n) ∷ es) fs = ap (λ l. (k, n) ∷ l) (there-append es fs)

is_there_append : (es fs : List (Name × Archive)) → T (is_there es) → T (is_there fs) → T (is_there (es ++ fs))
is_there_append [] fs h g = g
is_there_append ((k, None) ∷ es) fs h g = absurd h
is_there_append ((k, Some n) ∷ es) fs h g = is_there_append es fs h g

module _ {X : Type 0} (value : X → Archive) where
  valued_at : (es : List (Name × X)) (i : ℕ) (k : Name) (x : X) → slice_get es i ≡ Some (k, x)
      → slice_get (with_values value es) i ≡ Some (k, value x)
  valued_at [] i k x e = let no : ⊥ = cc in absurd no
  valued_at (d ∷ es) zero k x e = let same : d ≡ (k, x) = cc in ap (λ (d : Name × X). Some (d.0, value d.1)) same
  valued_at (d ∷ es) (suc i) k x e = valued_at es i k x e

  -- ---- the last name

  -- a name comes behind all where it comes behind the last
  pub last_after : (all : List (Name × X)) (start : ℕ) → MakeNode value (drop start all) → (e : Name × X)
      → Some e ≡ slice_get (take (length all - start) (drop start all)) (length (take (length all - start) (drop start all)) - 1) → (n : Name)
      → T (is_behind n (valued_edges value (drop start all))) ↔ IsAfter (Some e.0) n
  last_after all start make e at n =
      let es : List (Name × X) = drop start all in
      let found = there_at (with_values value es) (length es - 1) make.all_there e.0 (value e.1)
      (valued_at es (length es - 1) e.0 e.1 (sym (at ∙ ap (λ (l : List (Name × X)). slice_get l (length l - 1)) (take_rest all start)))) in
      let counts : length (valued_edges value es) ≡ length es = length_there (with_values value es) make.all_there ∙ length-map _ _ in
      behind_after n (valued_edges value es) e.0 found.0 (edges_rise _ make.edges)
      (subst (λ i. slice_get (valued_edges value es) (i - 1) ≡ Some (e.0, found.0)) (sym counts) found.1)

  -- the same of edges that are held elsewhere
  pub same_after : (held own : List (Name × X)) → held ≡ own → (start : ℕ) (IsLast : Name → Type 0)
      → ((n : Name) → T (is_behind n (valued_edges value (drop start held))) ↔ IsLast n) → (n : Name)
      → T (is_behind n (valued_edges value (drop start own))) ↔ IsLast n
  same_after held own same start IsLast h =
      subst (λ (es : List (Name × X)). (n : Name) → T (is_behind n (valued_edges value (drop start es))) ↔ IsLast n) same h

  -- ---- an edge more

  module _ (es : List (Name × X)) (k : Name) (x : X) (n : Node true) (is : value x ≡ Some n) where
    pub valued-last : valued_edges value (es ++ (k, x) ∷ []) ≡ valued_edges value es ++ (k, n) ∷ []
    valued-last =
        ap there (map-append _ es ((k, x) ∷ []))
        ∙ there-append (with_values value es) ((k, value x) ∷ [])
        ∙ ap (λ (o : Archive). valued_edges value es ++ there ((k, o) ∷ [])) is

    pub make_last : MakeNode value es → IsUtf8 k → T (is_behind k (valued_edges value es)) → MakeNode value (es ++ (k, x) ∷ [])
    make_last make text behind = record {
      all_there =
          subst (λ (l : List (Name × Archive)). T (is_there l)) (sym (map-append _ es ((k, x) ∷ [])))
          (is_there_append (with_values value es) ((k, value x) ∷ []) make.all_there
          (subst (λ (o : Archive). T (is_there ((k, o) ∷ []))) (sym is) tt));
      edges = subst (λ (l : List (Name × Node true)). T (are_edges l)) (sym valued-last)
          (edges_behind k n (valued_edges value es) make.edges text behind);
    }

-- ---- what is built

pub recorded_empty : recorded empty ≡ empty
unfolding recorded empty
recorded_empty = same_node _ _ refl

module _ {X Y : Type 0} (f : X → Y) where
  below_children : (x : Name) (es : List (Name × X)) → below_all x (map (λ (e : Name × X). (e.0, f e.1)) es) ≡ below_all x es
  below_children x [] = refl
  below_children x (e ∷ es) = ap (λ b. is_lt (name_cmp x e.0) && b) (below_children x es)

  sorted_children : (es : List (Name × X)) → is_sorted name_cmp (map (λ (e : Name × X). (e.0, f e.1)) es) ≡ is_sorted name_cmp es
  sorted_children [] = refl
  sorted_children (e ∷ es) = λ i. below_children e.0 es i && sorted_children es i

  texts_children : (es : List (Name × X)) → are_texts (map (λ (e : Name × X). (e.0, f e.1)) es) ≡ are_texts es
  texts_children [] = refl
  texts_children (e ∷ es) = ap (λ b. is_utf8 e.0 && b) (texts_children es)

  edges_children : (es : List (Name × X)) → are_edges (map (λ (e : Name × X). (e.0, f e.1)) es) ≡ are_edges es
  edges_children es = λ i. sorted_children es i && texts_children es i

-- a tree
module _ (es : List (Name × Tree)) (make : MakeNode (λ t. Some (recorded t)) es) where
  there_children : (es : List (Name × Tree)) → there (map record_edge es) ≡ map (λ (e : Name × Tree). (e.0, recorded e.1)) es
  there_children [] = refl
  there_children (e ∷ es) = ap (λ l. (e.0, recorded e.1) ∷ l) (there_children es)

  pub tree_edges : T (are_edges es)
  tree_edges = subst T (ap (λ (l : List (Name × Node true)). are_edges l) (there_children es) ∙ edges_children recorded es) make.edges

  pub tree_built : (t : Tree) → t ≡ node es → ◌≡◌ {A = Archive} (Some (recorded t)) (Some (node (valued_edges (λ t. Some (recorded t)) es)))
  tree_built t is =
      ap (λ (t : Tree). Some (recorded t)) is
      ∙ sym (recorded_view (node es) (map record_edge es) (ap (map record_edge) (sym (edges-node es tree_edges))))

-- an archive
pub valued_same : (es : List (Name × Archive)) → with_values (λ o. o) es ≡ es
valued_same [] = refl
valued_same (e ∷ es) = ap (λ l. e ∷ l) (valued_same es)
