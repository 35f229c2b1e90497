-- What a lens puts, from what its parts put.
use Rattle.std.proofs.Common.{◌≡◌, Bool, Result, IfOk, cond, is_some, not, Option, Some, None, IsSome, IfSome, sym, ap, subst, ◌∙◌, refl}
use Rattle.std.specs.Option.{option_map}
use Rattle.std.specs.FinSet.{contains}
use Rattle.std.proofs.lemmas.Option.{same_Some}
use Rattle.hm_tree.specs.Names.{Name}
use Rattle.hm_tree.specs.Nodes.{Tree, below}
use Rattle.hm_tree.specs.Archives.{under}
use Rattle.hm_tree.specs.Parts.{part, IsSplit, AreApart, Joins}
use Rattle.hm_schema.specs.Values.{Names}
use Rattle.hm_terms.specs.Lenses.{Lens, hoist, fork, merge, on_concrete, on_view, call, Setting, body_of}
use Rattle.hm_tree_parts.specs.Edges.{IsEdge}
use Rattle.hm_terms.specs.Before.{with_name, without_name}
use Rattle.hm_terms.specs.Put.{Puts, put_hoist, put_fork, put_merge, put_concrete_has, put_concrete_none, put_view_has, put_view_none, put_call}
use Rattle.hm_tree_parts.specs.Twins.{MergedFrom, of_none, of_same, of_other}
use Rattle.hm_terms.proofs.OnePut.{one_put}
use Rattle.hm_tree_parts.specs.Twins.{HasBoth, IsMergedBack}
use Rattle.hm_eval_terms.specs.Conditions.{IsPut, IsSplitBefore}

both_from : (m n : Name) (x y : Tree) (b : Option Tree) → MergedFrom m n x b y → IfSome b (HasBoth m n)
both_from m n x y b of_none = tt
both_from m n x y b (of_same {z = w} f g) = record { one = w; two = w; at_one = f; at_two = g }
both_from m n x y b (of_other {z = w} {w = u} f g d) = record { one = w; two = u; at_one = f; at_two = g }

module _ (S : Setting) where
  pub same_put : (l k : Lens) (v : Tree) (b : Option Tree) → l ≡ k → IsPut S k v b → IsPut S l v b
  same_put l k v b e h = subst (λ l. IsPut S l v b) (sym e) h

  pub row_puts : {E : Type 0} (r : Result Tree E) (l k : Lens) (v : Tree) (b : Option Tree) → k ≡ l → IfOk r (Puts S k v b) → IfOk r (Puts S l v b)
  row_puts r l k v b e h = subst (λ l. IfOk r (Puts S l v b)) e h

  pub same_puts : (l k : Lens) (v : Tree) (b : Option Tree) (c : Tree) → k ≡ l → Puts S k v b c → Puts S l v b c
  same_puts l k v b c e p = subst (λ l. Puts S l v b c) e p

  -- the same with a tree from before that is lent
  pub lent_put : (l k : Lens) (v : Tree) (b o : Option Tree) → l ≡ k → o ≡ b → IsPut S k v b → IsPut S l v o
  lent_put l k v b o e same h = subst (IsPut S l v) (sym same) (same_put l k v b e h)

  pub lent_puts : {E : Type 0} (r : Result Tree E) (l k : Lens) (v : Tree) (b o : Option Tree) → k ≡ l → o ≡ b → IfOk r (Puts S k v o) → IfOk r (Puts S l v b)
  lent_puts r l k v b o e same h = subst (λ b. IfOk r (Puts S l v b)) same (row_puts r l k v o e h)

  pub hoist_puts : (n m : Name) (z : Lens) (v : Tree) (b : Option Tree) (c : Tree) → z ≡ hoist n → m ≡ n → IsEdge m v c → Puts S z v b c
  hoist_puts n m z v b c e same p = subst (λ z. Puts S z v b c) (sym e) (put_hoist (subst (λ (n : Name). IsEdge n v c) same p))

  -- ---- merge
  module _ (m n : Name) (z : Lens) (v : Tree) (b : Option Tree) (e : z ≡ merge m n) (h : IsPut S z v b) where
    puts : Puts S (merge m n) v b h.tree
    puts = subst (λ z. Puts S z v b h.tree) e h.is

    pub has_first : IsSome (below m v)
    has_first = go puts
      where
        go : Puts S (merge m n) v b h.tree → IsSome (below m v)
        go (put_merge at none from is) = ap is_some at

    pub lacks_second : below n v ≡ None
    lacks_second = go puts
      where
        go : Puts S (merge m n) v b h.tree → below n v ≡ None
        go (put_merge at none from is) = none

    pub had_both : IfSome b (HasBoth m n)
    had_both = go puts
      where
        go : Puts S (merge m n) v b h.tree → IfSome b (HasBoth m n)
        go (put_merge {x = x} {y = y} at none from is) = both_from m n x y b from

    pub merge_puts : (c : Tree) → IsMergedBack m n v b c → Puts S z v b c
    merge_puts c is = subst (λ z. Puts S z v b c) (sym e) (put_merge is.there lacks_second is.merged is.is)

  -- ---- fork
  module _ (P Q : Names) (l k : Lens) (v : Tree) (b : Option Tree) (parts : Tree × Tree) (old : Option Tree × Option Tree)
      (s : IsSplit Q v parts) (r : IsSplitBefore P b old) where
    inside_same : (c : Tree) → Puts S l (part (contains Q) v) (option_map (part (contains P)) b) c → Puts S l parts.0 old.0 c
    inside_same c p = subst (λ v. Puts S l v old.0 c) (sym s.inside) (subst (λ b. Puts S l (part (contains Q) v) b c) (sym r.inside) p)

    inside_back : (c : Tree) → Puts S l parts.0 old.0 c → Puts S l (part (contains Q) v) (option_map (part (contains P)) b) c
    inside_back c p = subst (λ b. Puts S l (part (contains Q) v) b c) r.inside (subst (λ v. Puts S l v old.0 c) s.inside p)

    outside_same : (c : Tree) → Puts S k (part (λ n. not (contains Q n)) v) (option_map (part (λ n. not (contains P n))) b) c → Puts S k parts.1 old.1 c
    outside_same c p = subst (λ v. Puts S k v old.1 c) (sym s.outside) (subst (λ b. Puts S k (part (λ n. not (contains Q n)) v) b c) (sym r.outside) p)

    outside_back : (c : Tree) → Puts S k parts.1 old.1 c → Puts S k (part (λ n. not (contains Q n)) v) (option_map (part (λ n. not (contains P n))) b) c
    outside_back c p = subst (λ b. Puts S k (part (λ n. not (contains Q n)) v) b c) r.outside (subst (λ v. Puts S k v old.1 c) s.outside p)

    pub inside_put : IsPut S (fork P Q l k) v b → IsPut S l parts.0 old.0
    inside_put h = go h.is
      where
        go : Puts S (fork P Q l k) v b h.tree → IsPut S l parts.0 old.0
        go (put_fork {x = x} p q j) = record { tree = x; is = inside_same x p }

    pub outside_put : IsPut S (fork P Q l k) v b → IsPut S k parts.1 old.1
    outside_put h = go h.is
      where
        go : Puts S (fork P Q l k) v b h.tree → IsPut S k parts.1 old.1
        go (put_fork {y = y} p q j) = record { tree = y; is = outside_same y q }

    pub apart_put : (x y : Tree) → IsPut S (fork P Q l k) v b → Puts S l parts.0 old.0 x → Puts S k parts.1 old.1 y → AreApart x y
    apart_put x y h p q = go h.is
      where
        go : Puts S (fork P Q l k) v b h.tree → AreApart x y
        go (put_fork {x = u} {y = w} f g j) =
            subst (AreApart x) (one_put S (outside_same w g) q) (subst (λ x. AreApart x w) (one_put S (inside_same u f) p) j.apart)

    pub fork_puts : (x y c : Tree) → Puts S l parts.0 old.0 x → Puts S k parts.1 old.1 y → Joins x y c → Puts S (fork P Q l k) v b c
    fork_puts x y c p q j = put_fork (inside_back x p) (outside_back y q) j

  -- ---- one of two lenses
  module _ (n : Name) (l k m : Lens) (v : Tree) (b o : Option Tree) (same : o ≡ b) (is : m ≡ cond (is_some (under n o)) l k) where
    chosen_is : m ≡ cond (is_some (under n b)) l k
    chosen_is = is ∙ ap (λ o. cond (is_some (under n o)) l k) same

    pub concrete_put : IsPut S (on_concrete n l k) v b → IsPut S m v b
    concrete_put h = subst (λ m. IsPut S m v b) (sym chosen_is) (go h.is)
      where
        go : Puts S (on_concrete n l k) v b h.tree → IsPut S (cond (is_some (under n b)) l k) v b
        go (put_concrete_has at p) = record { tree = h.tree; is = subst (λ o. Puts S (cond (is_some o) l k) v b h.tree) (sym at) p }
        go (put_concrete_none at p) = record { tree = h.tree; is = subst (λ o. Puts S (cond (is_some o) l k) v b h.tree) (sym at) p }

    pub concrete_puts : (c : Tree) → Puts S m v b c → Puts S (on_concrete n l k) v b c
    concrete_puts c s = go (under n b) refl (subst (λ m. Puts S m v b c) chosen_is s)
      where
        go : (o : Option Tree) → under n b ≡ o → Puts S (cond (is_some o) l k) v b c → Puts S (on_concrete n l k) v b c
        go None at p = put_concrete_none at p
        go (Some x) at p = put_concrete_has at p

  module _ (n m : Name) (l k w : Lens) (v : Tree) (b o : Option Tree) (has : Bool) (is : w ≡ cond (is_some (below m v)) l k)
      (told : has ≡ is_some (below m v)) (old : o ≡ cond has (with_name n b) (without_name n b)) where
    view_old : o ≡ cond (is_some (below m v)) (with_name n b) (without_name n b)
    view_old = old ∙ ap (λ t. cond t (with_name n b) (without_name n b)) told

    abbrev ByKind : Option Tree → Tree → Type 0
    ByKind t c = Puts S (cond (is_some t) l k) v (cond (is_some t) (with_name n b) (without_name n b)) c

    pub view_put : IsPut S (on_view n m l k) v b → IsPut S w v o
    view_put h = record { tree = h.tree; is = back (go h.is) }
      where
        go : Puts S (on_view n m l k) v b h.tree → ByKind (below m v) h.tree
        go (put_view_has at p) = subst (λ t. ByKind t h.tree) (sym at) p
        go (put_view_none at p) = subst (λ t. ByKind t h.tree) (sym at) p

        back : ByKind (below m v) h.tree → Puts S w v o h.tree
        back p = subst (λ w. Puts S w v o h.tree) (sym is) (subst (λ o. Puts S (cond (is_some (below m v)) l k) v o h.tree) (sym view_old) p)

    pub view_puts : (c : Tree) → Puts S w v o c → Puts S (on_view n m l k) v b c
    view_puts c s = go (below m v) refl there
      where
        there : ByKind (below m v) c
        there = subst (λ o. Puts S (cond (is_some (below m v)) l k) v o c) view_old (subst (λ w. Puts S w v o c) is s)

        go : (t : Option Tree) → below m v ≡ t → ByKind t c → Puts S (on_view n m l k) v b c
        go None at p = put_view_none at p
        go (Some x) at p = put_view_has at p

  -- ---- call
  pub called_put : (n : Name) (l z : Lens) (v : Tree) (b : Option Tree) → z ≡ call n → body_of S.definitions n ≡ Some l → IsPut S z v b → IsPut S l v b
  called_put n l z v b e is h = go (subst (λ z. Puts S z v b h.tree) e h.is)
    where
      go : Puts S (call n) v b h.tree → IsPut S l v b
      go (put_call {l = k} f p) = record { tree = h.tree; is = subst (λ l. Puts S l v b h.tree) (same_Some k l (sym f ∙ is)) p }

  pub put_body : (n : Name) (z : Lens) (v : Tree) (b : Option Tree) → z ≡ call n → IsPut S z v b → IsSome (body_of S.definitions n)
  put_body n z v b e h = go (subst (λ z. Puts S z v b h.tree) e h.is)
    where
      go : Puts S (call n) v b h.tree → IsSome (body_of S.definitions n)
      go (put_call f p) = ap is_some f

  pub call_puts : (n : Name) (l z : Lens) (v : Tree) (b : Option Tree) (c : Tree) → z ≡ call n → body_of S.definitions n ≡ Some l → Puts S l v b c → Puts S z v b c
  call_puts n l z v b c e is p = subst (λ z. Puts S z v b c) (sym e) (put_call is p)
