-- Two lists of edges with the same names, and a relation between the trees at each place.
use Rattle.std.proofs.Common.{◌≡◌, Bool, true, false, cond, T, List, ◌∷◌, map, Some, refl, sym, ap, subst, ◌∙◌}
use Rattle.std.specs.Ordering.{eq_by_cmp, is_lt}
use Rattle.std.specs.Str.{is_utf8}
use Rattle.std.specs.FinMap.{find}
use Rattle.std.proofs.lemmas.Option.{same_Some, none-some}
use Rattle.hm_tree.specs.Names.{Name, name_cmp}
use Rattle.hm_tree.specs.Nodes.{Tree, node, edges, below, are_edges, edges_head, edges_below, edges_tail, edges_cons, below_all, first, second, both}
use Rattle.hm_tree.specs.NodeLaws.{edges-node, edges_are}
use Rattle.hm_tree_parts.specs.Edges.{names}
use Rattle.hm_eval_terms.proofs.Paired.{Paired, no_more, one_more}
use Rattle.hm_tree.proofs.NameSets.{tied_one}

pub record NamedBy (R : Name → Tree → Tree → Type 0) (e f : Name × Tree) : Type 0 where
  pub name : e.0 ≡ f.0
  pub is : R e.0 e.1 f.1

module _ {R : Name → Tree → Tree → Type 0} where
  beside_names : {es fs : List (Name × Tree)} → Paired (NamedBy R) es fs → map (λ (e : Name × Tree). e.0) es ≡ map (λ (e : Name × Tree). e.0) fs
  beside_names no_more = refl
  beside_names (one_more r p) = λ i. r.name i ∷ beside_names p i

  beside_above : {es fs : List (Name × Tree)} → (x : Name) → Paired (NamedBy R) es fs → T (below_all x es) → T (below_all x fs)
  beside_above x no_more h = h
  beside_above x (one_more {xs = es} r p) h =
      both _ _ (subst (λ n. T (is_lt (name_cmp x n))) r.name (first _ _ h)) (beside_above x p (second _ (below_all x es) h))

  -- the second list is that of a node's edges, as the first one is
  pub beside_edges : {es fs : List (Name × Tree)} → Paired (NamedBy R) es fs → T (are_edges es) → T (are_edges fs)
  beside_edges no_more h = h
  beside_edges (one_more {x = e} {y = f} {xs = es} {ys = fs} r p) h =
      edges_cons f fs (subst (λ n. T (is_utf8 n)) r.name (edges_head e es h))
      (subst (λ n. T (below_all n fs)) r.name (beside_above e.0 p (edges_below e es h))) (beside_edges p (edges_tail e es h))

  beside_found : {es fs : List (Name × Tree)} → Paired (NamedBy R) es fs → (k : Name) (x y : Tree) → find name_cmp k es ≡ Some x
      → find name_cmp k fs ≡ Some y → R k x y
  beside_found no_more k x y e f = absurd (none-some x e)
  beside_found (one_more {x = e} {y = f} {xs = es} {ys = fs} r p) k x y at there =
      go (eq_by_cmp name_cmp k e.0) refl at (ap (λ n. cond (eq_by_cmp name_cmp k n) (Some f.1) (find name_cmp k fs)) r.name ∙ there) (beside_found p k x y)
    where
      go : (t : Bool) → eq_by_cmp name_cmp k e.0 ≡ t → cond t (Some e.1) (find name_cmp k es) ≡ Some x
          → cond t (Some f.1) (find name_cmp k fs) ≡ Some y
          → (find name_cmp k es ≡ Some x → find name_cmp k fs ≡ Some y → R k x y) → R k x y
      go true t at there rest =
          subst (λ k. R k x y) (sym (tied_one k e.0 t)) (subst (λ x. R e.0 x y) (same_Some e.1 x at) (subst (R e.0 e.1) (same_Some f.1 y there) r.is))
      go false t at there rest = rest at there

-- a tree with something beside each child of a tree
pub record IsBesideTree (R : Name → Tree → Tree → Type 0) (t u : Tree) : Type 0 where
  pub same : names t ≡ names u
  pub each : (k : Name) (x y : Tree) → below k t ≡ Some x → below k u ≡ Some y → R k x y

pub beside_tree : (R : Name → Tree → Tree → Type 0) (t : Tree) (fs : List (Name × Tree)) → Paired (NamedBy R) (edges t) fs → IsBesideTree R t (node fs)
beside_tree R t fs b =
    let e : edges (node fs) ≡ fs = edges-node fs (beside_edges b (edges_are t)) in
    record {
      same = beside_names b ∙ ap (map (λ (e : Name × Tree). e.0)) (sym e);
      each = λ k x y at there. beside_found b k x y at (ap (find name_cmp k) (sym e) ∙ there);
    }
