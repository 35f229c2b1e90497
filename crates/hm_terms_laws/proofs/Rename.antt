-- An edge under another name, where it is there: the law of rename, and of rename on the trees that have the name.
use Rattle.std.proofs.Common.{◌≡◌, ℕ, Bool, true, false, cond, not, ◌||◌, T, [], ◌∷◌, Option, Some, None, refl, sym, ap, ◌∙◌}
use Rattle.std.specs.FinSet.{contains}
use Rattle.std.specs.FinMap.{find}
use Rattle.std.specs.Str.{is_utf8}
use Rattle.std.proofs.lemmas.Bool.{true≢false}
use Rattle.hm_tree.specs.Names.{Name, name_cmp}
use Rattle.hm_tree.specs.Nodes.{Tree, node, edges, below, edges_from, both}
use Rattle.hm_tree.specs.NodeLaws.{edges-node}
use Rattle.hm_tree.specs.Parts.{part}
use Rattle.hm_tree.proofs.NameSets.{tied_one, tied_self}
use Rattle.hm_terms.specs.Lenses.{identity, sequence, hoist, plunge, on_view, Setting}
use Rattle.hm_tree_parts.specs.Edges.{IsEdge}
use Rattle.hm_terms.specs.Fitting.{Fits}
use Rattle.hm_tree_parts.proofs.Maps.{same_children}
use Rattle.hm_tree.proofs.Parted.{below-part}
use Rattle.hm_tree_parts.proofs.OneEdge.{below-edge}
use Rattle.hm_terms.proofs.Laws.{fits_identity, fits_sequence, fits_hoist, fits_plunge}
use Rattle.hm_terms_laws.specs.Bounded.{FitsTo}
use Rattle.hm_terms_laws.proofs.Bounded.{fits_to, fits_all}
use Rattle.hm_terms_laws.proofs.Fork.{fits_fork}
use Rattle.hm_terms_laws.proofs.Branches.{fits_view}
use Rattle.hm_tree_parts.specs.Sets.{Any, IsWithin, IsSplitSet, Side, with_it, without_it, IsBranched}
use Rattle.hm_schema.specs.OneName.{alone, is}
use Rattle.hm_terms_laws.specs.Renaming.{rename, Edge, HasAlso}
use Rattle.hm_schema.proofs.OneName.{in_alone}

or_other : (a b : Bool) → (a || b) ≡ false → (a ≡ false) × (b ≡ false)
or_other true b h = absurd (true≢false h)
or_other false b h = (refl, h)

or_none : (a b : Bool) → a ≡ false → b ≡ false → (a || b) ≡ false
or_none true b h g = absurd (true≢false h)
or_none false b h g = g

module _ (m : Name) (text : T (is_utf8 m)) (p : Name → Bool) (other : p m ≡ false) where
  one : (t x : Tree) → below m t ≡ Some x → IsEdge m x (part (contains (alone m)) t)
  one t x at = ap edges (same_children (part (contains (alone m)) t) (node ((m, x) ∷ [])) same) ∙ whole
    where
      whole : edges (node ((m, x) ∷ [])) ≡ (m, x) ∷ []
      whole = edges-node ((m, x) ∷ []) (edges_from ((m, x) ∷ []) tt (both (is_utf8 m) true text tt))

      by : (k : Name) (b : Bool) → is m k ≡ b → cond b (below k t) None ≡ cond b (Some x) None
      by k true e = ap (λ k. below k t) (tied_one k m e) ∙ at
      by k false e = refl

      same : (k : Name) → below k (part (contains (alone m)) t) ≡ below k (node ((m, x) ∷ []))
      same k = below-part (contains (alone m)) t k ∙ ap (λ b. cond b (below k t) None) (in_alone m k) ∙ by k (is m k) refl
          ∙ sym (ap (find name_cmp k) whole)

  outside : (t : Tree) → HasAlso m p t → IsWithin p (part (λ n. not (contains (alone m) n)) t)
  outside t h k no_p = below-part (λ n. not (contains (alone m) n)) t k ∙ ap (λ b. cond (not b) (below k t) None) (in_alone m k) ∙ go (is m k) refl
    where
      go : (b : Bool) → is m k ≡ b → cond (not b) (below k t) None ≡ None
      go true e = refl
      go false e = h.within k (or_none (is m k) (p k) e no_p)

  whole : (t : Tree) → Edge m (part (contains (alone m)) t) → IsWithin p (part (λ n. not (contains (alone m) n)) t) → HasAlso m p t
  whole t i o = record {
    child = i.0;
    there = sym (below-part (contains (alone m)) t m ∙ ap (λ b. cond b (below m t) None) (in_alone m m ∙ tied_self m)) ∙ below-edge m i.0 _ i.1;
    within = λ k h. let apart = or_other (is m k) (p k) h in
        sym (below-part (λ n. not (contains (alone m) n)) t k ∙ ap (λ b. cond (not b) (below k t) None) (in_alone m k ∙ apart.0)) ∙ o k apart.1;
  }

  pub split : IsSplitSet (contains (alone m)) (HasAlso m p) (Edge m) (IsWithin p)
  split = record {
    inside = λ t h. (h.child, one t h.child h.there);
    outside = outside;
    whole = whole;
    in_one = λ t i k h. ap (find name_cmp k) i.1 ∙ ap (λ b. cond b (Some i.0) None) (sym (in_alone m k) ∙ h);
    in_two = λ t h k inside. by t h k (is m k) (sym (ap not (in_alone m k)) ∙ inside) refl;
  }
    where
      by : (t : Tree) → IsWithin p t → (k : Name) (b : Bool) → not b ≡ false → is m k ≡ b → below k t ≡ None
      by t h k true _ e = ap (λ k. below k t) (tied_one k m e) ∙ h m other
      by t h k false no_b e = absurd (true≢false no_b)

  pub branched : IsBranched m (IsWithin (λ k. is m k || p k)) (HasAlso m p) (IsWithin p)
  branched = record {
    side = λ t h. go t h (below m t) refl;
    one = λ t h. h.within;
    two = λ t h k e. h k (or_other (is m k) (p k) e).1;
    one_has = λ t h. (h.child, h.there);
    two_lacks = λ t h. h m other;
  }
    where
      go : (t : Tree) → IsWithin (λ k. is m k || p k) t → (x : Option Tree) → below m t ≡ x
          → Side m (IsWithin (λ k. is m k || p k)) (HasAlso m p) (IsWithin p) t
      go t h (Some x) at = with_it at (record { child = x; there = at; within = h })
      go t h None at = without_it at (λ k no_p. by k no_p (is m k) refl)
        where
          by : (k : Name) → p k ≡ false → (b : Bool) → is m k ≡ b → below k t ≡ None
          by k no_p true e = ap (λ k. below k t) (tied_one k m e) ∙ at
          by k no_p false e = h k (or_none (is m k) (p k) e no_p)

module _ (S : Setting) (m n : Name) (text_m : T (is_utf8 m)) (text_n : T (is_utf8 n)) (p : Name → Bool) (no_m : p m ≡ false) (no_n : p n ≡ false) where
  pub fits_rename : (d : ℕ) → FitsTo d S (rename m n) (HasAlso m p) (HasAlso n p)
  fits_rename d =
      fits_fork S (alone m) (alone n) (sequence (hoist m) (plunge n)) identity (HasAlso m p) (Edge m) (IsWithin p) (HasAlso n p) (Edge n) (IsWithin p)
      (split m text_m p no_m) (split n text_n p no_n) d
      (fits_to S (sequence (hoist m) (plunge n)) (Edge m) (Edge n) (fits_sequence S (hoist m) (plunge n) (Edge m) Any (Edge n)
      (fits_hoist S m text_m (Edge m) Any (λ c h. (h.0, h.1, tt)) (λ c x e i. (x, e)))
      (fits_plunge S n text_n Any (Edge n) (λ v h. (h.0, h.1, tt)) (λ v x e i. (x, e)))) d)
      (fits_to S identity (IsWithin p) (IsWithin p) (fits_identity S (IsWithin p)) d)

  -- where the name is there it is shown by the other one, and else the tree is shown as it is
  pub fits_rename_there : Fits S (on_view m n (rename m n) identity) (IsWithin (λ k. is m k || p k)) (IsWithin (λ k. is n k || p k))
  fits_rename_there = fits_all S (on_view m n (rename m n) identity) (IsWithin (λ k. is m k || p k)) (IsWithin (λ k. is n k || p k))
      (λ d. fits_view S m n (rename m n) identity
      (IsWithin (λ k. is m k || p k)) (HasAlso m p) (IsWithin p) (IsWithin (λ k. is n k || p k)) (HasAlso n p) (IsWithin p)
      (branched m text_m p no_m) (branched n text_n p no_n) d (fits_rename d) (fits_to S identity (IsWithin p) (IsWithin p) (fits_identity S (IsWithin p)) d))
