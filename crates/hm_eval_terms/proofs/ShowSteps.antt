-- What a lens shows, from what its parts show.
use Rattle.std.proofs.Common.{◌≡◌, ℕ, ◌<◌, ◌-◌, Result, IfOk, ◌⊎◌, inl, inr, Box, cond, is_some, List, [], ◌∷◌, Option, Some, None, IsSome, slice_get, sym, ap, subst, ◌∙◌, refl, arith}
use Rattle.std.proofs.lemmas.Option.{same_Some}
use Rattle.hm_tree.specs.Names.{Name}
use Rattle.hm_tree.specs.Nodes.{Tree, below, without_edge}
use Rattle.hm_tree.specs.Parts.{IsSplit, AreApart, Joins}
use Rattle.hm_schema.specs.Values.{Names}
use Rattle.hm_terms.specs.Lenses.{Lens, sequence, plunge, merge, fork, items, on_concrete, on_view, call, Setting, body_of}
use Rattle.hm_tree_parts.specs.Edges.{IsEdge}
use Rattle.hm_tree_parts.specs.Lists.{IsList, no_items, an_item, HasItems, none_left, and_then}
use Rattle.hm_terms.specs.Shown.{Shows, by_sequence, by_plunge, by_merge, by_fork, by_items_none, by_items_more, by_concrete_has, by_concrete_none, by_view_has, by_view_none, by_call}
use Rattle.hm_tree_parts.proofs.OneList.{one_head, one_tail, nil_item}
use Rattle.hm_terms.proofs.OneShown.{one_shown}
use Rattle.std.specs.declared.alloc.Global.{Global}
use Rattle.hm_terms.specs.declared.term.Term.{Term, ByConcrete, ByView}
use Rattle.hm_terms.specs.Programs.{lens_of}
use Rattle.hm_eval_terms.specs.Conditions.{IsShown}
use Rattle.hm_eval_terms.proofs.Paired.{Paired, no_more, one_more, paired_at}

-- a lens inside a lens has one level less
pub fewer : (levels t : ℕ) → levels ≡ t → (levels ≡ 0 → ⊥) → levels - 1 < t
fewer levels t e some = omega arith

module _ (S : Setting) where
  pub same_shown : (l k : Lens) (c : Tree) → l ≡ k → IsShown S k c → IsShown S l c
  same_shown l k c e h = subst (λ l. IsShown S l c) (sym e) h

  pub same_shows : (l k : Lens) (c v : Tree) → k ≡ l → Shows S k c v → Shows S l c v
  same_shows l k c v e h = subst (λ l. Shows S l c v) e h

  pub row_shows : {E : Type 0} (r : Result Tree E) (l k : Lens) (c : Tree) → k ≡ l → IfOk r (Shows S k c) → IfOk r (Shows S l c)
  row_shows r l k c e h = subst (λ l. IfOk r (Shows S l c)) e h

  -- ---- sequence
  pub first_shown : (l k : Lens) (c : Tree) → IsShown S (sequence l k) c → IsShown S l c
  first_shown l k c h = go h.is
    where
      go : Shows S (sequence l k) c h.tree → IsShown S l c
      go (by_sequence {m = m} p q) = record { tree = m; is = p }

  pub second_shown : (l k : Lens) (c m : Tree) → IsShown S (sequence l k) c → Shows S l c m → IsShown S k m
  second_shown l k c m h s = go h.is
    where
      go : Shows S (sequence l k) c h.tree → IsShown S k m
      go (by_sequence p q) = record { tree = h.tree; is = subst (λ m. Shows S k m h.tree) (one_shown S p s) q }

  pub merge_shows : (m n : Name) (z : Lens) (c v : Tree) → z ≡ merge m n → v ≡ without_edge n c → Shows S z c v
  merge_shows m n z c v e is = subst (λ z. Shows S z c v) (sym e) (by_merge is)

  pub plunge_shows : (n m : Name) (z : Lens) (c v : Tree) → z ≡ plunge n → m ≡ n → IsEdge m c v → Shows S z c v
  plunge_shows n m z c v e same p = subst (λ z. Shows S z c v) (sym e) (by_plunge (subst (λ (n : Name). IsEdge n c v) same p))

  -- ---- fork
  module _ (P Q : Names) (l k : Lens) (c : Tree) (parts : Tree × Tree) (s : IsSplit P c parts) where
    pub inside_shown : IsShown S (fork P Q l k) c → IsShown S l parts.0
    inside_shown h = go h.is
      where
        go : Shows S (fork P Q l k) c h.tree → IsShown S l parts.0
        go (by_fork {x = x} p q j) = record { tree = x; is = subst (λ c. Shows S l c x) (sym s.inside) p }

    pub outside_shown : IsShown S (fork P Q l k) c → IsShown S k parts.1
    outside_shown h = go h.is
      where
        go : Shows S (fork P Q l k) c h.tree → IsShown S k parts.1
        go (by_fork {y = y} p q j) = record { tree = y; is = subst (λ c. Shows S k c y) (sym s.outside) q }

    pub apart_shown : (x y : Tree) → IsShown S (fork P Q l k) c → Shows S l parts.0 x → Shows S k parts.1 y → AreApart x y
    apart_shown x y h p q = go h.is
      where
        go : Shows S (fork P Q l k) c h.tree → AreApart x y
        go (by_fork {x = u} {y = w} r t j) =
            let one : u ≡ x = one_shown S r (subst (λ c. Shows S l c x) s.inside p) in
            let two : w ≡ y = one_shown S t (subst (λ c. Shows S k c y) s.outside q) in
            subst (AreApart x) two (subst (λ x. AreApart x w) one j.apart)

    pub fork_shows : (x y v : Tree) → Shows S l parts.0 x → Shows S k parts.1 y → Joins x y v → Shows S (fork P Q l k) c v
    fork_shows x y v p q j = by_fork (subst (λ c. Shows S l c x) s.inside p) (subst (λ c. Shows S k c y) s.outside q) j

  -- ---- the first lens where the tree has a name
  module _ (n : Name) (l k : Lens) (c : Tree) where
    pub concrete_shown : (z : Lens) → z ≡ on_concrete n l k → IsShown S z c → IsShown S (cond (is_some (below n c)) l k) c
    concrete_shown z e h = go (subst (λ z. Shows S z c h.tree) e h.is)
      where
        go : Shows S (on_concrete n l k) c h.tree → IsShown S (cond (is_some (below n c)) l k) c
        go (by_concrete_has at p) = record { tree = h.tree; is = subst (λ o. Shows S (cond (is_some o) l k) c h.tree) (sym at) p }
        go (by_concrete_none at p) = record { tree = h.tree; is = subst (λ o. Shows S (cond (is_some o) l k) c h.tree) (sym at) p }

    pub concrete_shows : (z : Lens) (v : Tree) → z ≡ on_concrete n l k → Shows S (cond (is_some (below n c)) l k) c v → Shows S z c v
    concrete_shows z v e s = subst (λ z. Shows S z c v) (sym e) (go (below n c) refl s)
      where
        go : (o : Option Tree) → below n c ≡ o → Shows S (cond (is_some o) l k) c v → Shows S (on_concrete n l k) c v
        go None at p = by_concrete_none at p
        go (Some x) at p = by_concrete_has at p

    pub view_shown : (m : Name) (z : Lens) → z ≡ on_view n m l k → IsShown S z c → IsShown S (cond (is_some (below n c)) l k) c
    view_shown m z e h = go (subst (λ z. Shows S z c h.tree) e h.is)
      where
        go : Shows S (on_view n m l k) c h.tree → IsShown S (cond (is_some (below n c)) l k) c
        go (by_view_has at p) = record { tree = h.tree; is = subst (λ o. Shows S (cond (is_some o) l k) c h.tree) (sym at) p }
        go (by_view_none at p) = record { tree = h.tree; is = subst (λ o. Shows S (cond (is_some o) l k) c h.tree) (sym at) p }

    pub view_shows : (m : Name) (z : Lens) (v : Tree) → z ≡ on_view n m l k → Shows S (cond (is_some (below n c)) l k) c v → Shows S z c v
    view_shows m z v e s = subst (λ z. Shows S z c v) (sym e) (go (below n c) refl s)
      where
        go : (o : Option Tree) → below n c ≡ o → Shows S (cond (is_some o) l k) c v → Shows S (on_view n m l k) c v
        go None at p = by_view_none at p
        go (Some x) at p = by_view_has at p

  pub branch_shown : (t : Term) (n : Name) (p q : Box Term Global) (c : Tree) (l k m : Lens)
      → (t ≡ ByConcrete n p q) ⊎ ((o : Name) × (t ≡ ByView n o p q)) → m ≡ cond (is_some (below n c)) l k → l ≡ lens_of p.value → k ≡ lens_of q.value
      → IsShown S (lens_of t) c → IsShown S m c
  branch_shown t n p q c l k m is e f g h = subst (λ m. IsShown S m c) (sym (e ∙ λ i. cond (is_some (below n c)) (f i) (g i))) (go is)
    where
      go : (t ≡ ByConcrete n p q) ⊎ ((o : Name) × (t ≡ ByView n o p q)) → IsShown S (cond (is_some (below n c)) (lens_of p.value) (lens_of q.value)) c
      go (inl w) = concrete_shown n (lens_of p.value) (lens_of q.value) c (lens_of t) (ap lens_of w) h
      go (inr w) = view_shown n (lens_of p.value) (lens_of q.value) c w.0 (lens_of t) (ap lens_of w.1) h

  pub branch_shows : (t : Term) (n : Name) (p q : Box Term Global) (c : Tree) (l k m : Lens) (v : Tree)
      → (t ≡ ByConcrete n p q) ⊎ ((o : Name) × (t ≡ ByView n o p q)) → m ≡ cond (is_some (below n c)) l k → l ≡ lens_of p.value → k ≡ lens_of q.value
      → Shows S m c v → Shows S (lens_of t) c v
  branch_shows t n p q c l k m v is e f g s = go is (subst (λ m. Shows S m c v) (e ∙ λ i. cond (is_some (below n c)) (f i) (g i)) s)
    where
      go : (t ≡ ByConcrete n p q) ⊎ ((o : Name) × (t ≡ ByView n o p q)) → Shows S (cond (is_some (below n c)) (lens_of p.value) (lens_of q.value)) c v
          → Shows S (lens_of t) c v
      go (inl w) s = concrete_shows n (lens_of p.value) (lens_of q.value) c (lens_of t) v (ap lens_of w) s
      go (inr w) s = view_shows n (lens_of p.value) (lens_of q.value) c w.0 (lens_of t) v (ap lens_of w.1) s

  -- ---- call
  pub has_body : (n : Name) (z : Lens) (c : Tree) → z ≡ call n → IsShown S z c → IsSome (body_of S.definitions n)
  has_body n z c e h = go (subst (λ z. Shows S z c h.tree) e h.is)
    where
      go : Shows S (call n) c h.tree → IsSome (body_of S.definitions n)
      go (by_call f p) = ap is_some f

  pub called_shown : (n : Name) (l z : Lens) (c : Tree) → z ≡ call n → body_of S.definitions n ≡ Some l → IsShown S z c → IsShown S l c
  called_shown n l z c e b h = go (subst (λ z. Shows S z c h.tree) e h.is)
    where
      go : Shows S (call n) c h.tree → IsShown S l c
      go (by_call {l = k} f p) = record { tree = h.tree; is = subst (λ l. Shows S l c h.tree) (same_Some k l (sym f ∙ b)) p }

  pub call_shows : (n : Name) (l z : Lens) (c v : Tree) → z ≡ call n → body_of S.definitions n ≡ Some l → Shows S l c v → Shows S z c v
  call_shows n l z c v e b p = subst (λ z. Shows S z c v) (sym e) (by_call b p)

  -- ---- items
  shown_list : (l : Lens) (c v : Tree) → Shows S (items l) c v → IsList c
  shown_list l c v (by_items_none none e) = no_items none
  shown_list l c v (by_items_more {t = t} {r = r} is p q e) = an_item is tt (shown_list l t r q)

  pub items_list : (l : Lens) (c : Tree) → IsShown S (items l) c → IsList c
  items_list l c h = shown_list l c h.tree h.is

  items_shown : (l : Lens) (c v : Tree) (xs : List Tree) → HasItems c xs → Shows S (items l) c v → (ys : List Tree) × Paired (Shows S l) xs ys
  items_shown l c v xs (none_left none) (by_items_none e f) = ([], no_more)
  items_shown l c v xs (none_left none) (by_items_more {h = h} {t = t} is p q e) = absurd (nil_item h t c none is)
  items_shown l c v xs (and_then {x = x} {r = r} is rest) (by_items_none e f) = absurd (nil_item x r c e is)
  items_shown l c v xs (and_then {x = x} {r = r} {xs = xs1} is rest) (by_items_more {h = h} {t = t} {x = y} {r = s} other p q e) =
      let tails : t ≡ r = one_tail h t x r c other is in
      let behind = items_shown l r s xs1 rest (subst (λ t. Shows S (items l) t s) tails q) in
      (y ∷ behind.0, one_more (subst (λ h. Shows S l h y) (one_head h t x r c other is) p) behind.1)

  pub item_shown : (l : Lens) (c : Tree) (xs : List Tree) (i : ℕ) (x : Tree) → HasItems c xs → slice_get xs i ≡ Some x → IsShown S (items l) c
      → IsShown S l x
  item_shown l c xs i x has at h =
      let ys = items_shown l c h.tree xs has h.is in
      let y = paired_at xs ys.0 i x ys.1 at in
      record { tree = y.0; is = y.1 }

  items_of : (l : Lens) (c v : Tree) (xs ys : List Tree) → HasItems c xs → Paired (Shows S l) xs ys → HasItems v ys → Shows S (items l) c v
  items_of l c v xs ys (none_left none) no_more (none_left nil) = by_items_none none nil
  items_of l c v xs ys (and_then {r = r} {xs = us} is rest) (one_more {ys = ws} s p) (and_then {r = q} {xs = ws2} made more) =
      by_items_more is s (items_of l r q us ws rest p more) made

  pub items_show : (l : Lens) (c v : Tree) (xs us ys : List Tree) → HasItems c xs → us ≡ xs → Paired (Shows S l) us ys → HasItems v ys
      → Shows S (items l) c v
  items_show l c v xs us ys has taken p made = items_of l c v xs ys has (subst (λ l2. Paired (Shows S l) l2 ys) taken p) made
