-- Two lists of edges with the same names, and a relation between the trees at each place.
use Rattle.std.proofs.Common.{◌≡◌, ◌&&◌, Bool, true, false, cond, T, List, [], ◌∷◌, ◌++◌, map, Some, None, refl, sym, ap, subst, ◌∙◌}
use Rattle.std.specs.Ordering.{eq_by_cmp}
use Rattle.std.specs.FinMap.{find, is_sorted}
use Rattle.std.proofs.lemmas.Option.{same_Some, none-some}
use Rattle.std.proofs.lemmas.Cmp.{tied_itself}
use Rattle.hm_tree.specs.Names.{Name, name_cmp}
use Rattle.hm_tree.specs.Nodes.{Tree, node, edges, below, second, below_all, first, both, are_texts, are_edges, edges_from, edges_rise, edges_texts}
use Rattle.std.specs.Str.{is_utf8}
use Rattle.hm_tree.specs.NodeLaws.{edges-node, edges_are, edges_sorted}
use Rattle.hm_tree.proofs.Sorted.{name_total, is_less}
use Rattle.hm_schema.proofs.NamesOf.{tie_one}
use Rattle.std.specs.Ordering.{is_lt}
use Rattle.hm_tree_parts.specs.Edges.{names}

pub data Besides (R : Name → Tree → Tree → Type 0) : List (Name × Tree) → List (Name × Tree) → Type 0 where
  no_more : Besides R [] []
  one_more : {k : Name} {x y : Tree} {es fs : List (Name × Tree)} → R k x y → Besides R es fs → Besides R ((k, x) ∷ es) ((k, y) ∷ fs)

module _ {R : Name → Tree → Tree → Type 0} where
  pub beside_names : {es fs : List (Name × Tree)} → Besides R es fs → map (λ (e : Name × Tree). e.0) es ≡ map (λ (e : Name × Tree). e.0) fs
  beside_names no_more = refl
  beside_names (one_more {k = k} r b) = ap (λ (l : List Name). k ∷ l) (beside_names b)

  pub beside_sorted : {es fs : List (Name × Tree)} → Besides R es fs → T (is_sorted name_cmp es) → T (is_sorted name_cmp fs)
  beside_sorted no_more h = h
  beside_sorted (one_more {k = k} {es = es} {fs = fs} r b) h = both _ _ (subst T (above b) (first _ _ h)) (beside_sorted b (second _ _ h))
    where
      above : {es fs : List (Name × Tree)} → Besides R es fs → below_all k es ≡ below_all k fs
      above no_more = refl
      above (one_more {k = n} r b) = ap (λ x. is_lt (name_cmp k n) && x) (above b)

  beside_texts : {es fs : List (Name × Tree)} → Besides R es fs → T (are_texts es) → T (are_texts fs)
  beside_texts no_more h = h
  beside_texts (one_more {k = k} r b) h = both _ _ (first _ _ h) (beside_texts b (second (is_utf8 k) _ h))

  pub beside_edges : {es fs : List (Name × Tree)} → Besides R es fs → T (are_edges es) → T (are_edges fs)
  beside_edges {es = es} {fs = fs} b h = edges_from fs (beside_sorted b (edges_rise es h)) (beside_texts b (edges_texts es h))

  pub beside_found : {es fs : List (Name × Tree)} → Besides R es fs → (k : Name) (x y : Tree) → find name_cmp k es ≡ Some x
      → find name_cmp k fs ≡ Some y → R k x y
  beside_found no_more k x y e f = absurd (none-some x e)
  beside_found (one_more {k = n} {x = u} {y = w} {es = es} {fs = fs} r b) k x y e f = go (eq_by_cmp name_cmp k n) refl e f (beside_found b k x y)
    where
      go : (t : Bool) → eq_by_cmp name_cmp k n ≡ t → cond t (Some u) (find name_cmp k es) ≡ Some x → cond t (Some w) (find name_cmp k fs) ≡ Some y
          → (find name_cmp k es ≡ Some x → find name_cmp k fs ≡ Some y → R k x y) → R k x y
      go true t e f rest = subst (λ k. R k x y) (sym (tie_one k n t)) (subst (λ x. R n x y) (same_Some u x e) (subst (R n u) (same_Some w y f) r))
      go false t e f rest = rest e f

  pub beside_snoc : {es fs : List (Name × Tree)} → Besides R es fs → (k : Name) (x y : Tree) → R k x y
      → Besides R (es ++ (k, x) ∷ []) (fs ++ (k, y) ∷ [])
  beside_snoc no_more k x y r = one_more r no_more
  beside_snoc (one_more s b) k x y r = one_more s (beside_snoc b k x y r)

pub none_above : (k : Name) (es : List (Name × Tree)) → T (below_all k es) → find name_cmp k es ≡ None
none_above k [] h = refl
none_above k (e ∷ es) h = rw (is_less (name_cmp k e.0) (first _ _ h)) (none_above k es (second _ _ h))

-- each edge of a list has something beside it
pub all_beside : (R : Name → Tree → Tree → Type 0) (es : List (Name × Tree)) → T (is_sorted name_cmp es)
    → ((k : Name) (x : Tree) → find name_cmp k es ≡ Some x → (y : Tree) × R k x y) → (fs : List (Name × Tree)) × Besides R es fs
all_beside R [] h f = ([], no_more)
all_beside R ((n, x) ∷ es) h f =
    let here = f n x (rw (tied_itself name_total n) refl) in
    let rest = all_beside R es (second _ _ h) (λ k y e. f k y (go k y e (eq_by_cmp name_cmp k n) refl)) in
    ((n, here.0) ∷ rest.0, one_more here.1 rest.1)
  where
    go : (k : Name) (y : Tree) → find name_cmp k es ≡ Some y → (t : Bool) → eq_by_cmp name_cmp k n ≡ t → cond t (Some x) (find name_cmp k es) ≡ Some y
    go k y e true t = absurd (none-some y (sym (none_above n es (first _ _ h)) ∙ ap (λ k. find name_cmp k es) (sym (tie_one k n t)) ∙ e))
    go k y e false t = e

-- a tree with something beside each child of a tree
pub record IsBesideTree (R : Name → Tree → Tree → Type 0) (t u : Tree) : Type 0 where
  pub same : names t ≡ names u
  pub each : (k : Name) (x y : Tree) → below k t ≡ Some x → below k u ≡ Some y → R k x y

pub tree_beside : (R : Name → Tree → Tree → Type 0) (t : Tree) (fs : List (Name × Tree)) → Besides R (edges t) fs → IsBesideTree R t (node fs)
tree_beside R t fs b =
    let e : edges (node fs) ≡ fs = edges-node fs (beside_edges b (edges_are t)) in
    record {
      same = beside_names b ∙ ap (map (λ (e : Name × Tree). e.0)) (sym e);
      each = λ k x y at there. beside_found b k x y at (ap (find name_cmp k) (sym e) ∙ there);
    }

pub some_tree_beside : (R : Name → Tree → Tree → Type 0) (t : Tree) → ((k : Name) (x : Tree) → below k t ≡ Some x → (y : Tree) × R k x y)
    → (u : Tree) × IsBesideTree R t u
some_tree_beside R t f = let b = all_beside R (edges t) (edges_sorted t) f in (node b.0, tree_beside R t b.0 b.1)
