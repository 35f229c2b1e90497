-- What a lens puts of the children of a tree.
use Rattle.std.proofs.Common.{◌≡◌, ℕ, zero, suc, ◌<◌, T, List, [], ◌∷◌, ◌++◌, map, length, get_or, slice_get, Option, Some, None, sym, ap, subst, ◌∙◌, refl, arith}
use Rattle.std.specs.Borrow.{Bor}
use Rattle.std.specs.FinMap.{find, is_sorted}
use Rattle.std.specs.declared.cmp.Ordering.TheVariants.{Less}
use Rattle.std.proofs.lemmas.Option.{same_Some, none-some}
use Rattle.hm_tree.specs.Names.{Name, name_cmp}
use Rattle.hm_tree.specs.Nodes.{Tree, node, below, are_edges, below_all, first, second, both}
use Rattle.hm_tree.specs.NodeLaws.{edges_are, edges_sorted}
use Rattle.hm_tree.proofs.Sorted.{is_less}
use Rattle.hm_tree.specs.Archives.{under}
use Rattle.hm_terms.specs.declared.term.Term.{Term}
use Rattle.hm_terms.specs.Lenses.{Lens, lens_at, Setting}
use Rattle.hm_terms.specs.Programs.{lens_of}
use Rattle.hm_terms.specs.Put.{Puts, put_each, put_among}
use Rattle.hm_tree_parts.proofs.Maps.{beside}
use Rattle.hm_eval_terms.specs.declared.children.Child.{Child}
use Rattle.hm_eval_terms.specs.Terms.{option_lens}
use Rattle.hm_eval_terms.specs.Conditions.{IsPut}
use Rattle.hm_eval_terms.specs.Children.{lens_for, edge_of, AreChildren, IsOnChildren, on_each, on_among}
use Rattle.hm_eval_terms.proofs.Paired.{Paired, none_paired, more_paired}
use Rattle.hm_eval_terms.proofs.Beside.{NamedBy, beside_edges, IsBesideTree, beside_tree}
use Rattle.hm_eval_terms.proofs.OnChildren.{over_edges, child_at, lens_here}

-- what is put of a child by the lens for it, if there is one
abbrev pub PutsBy : Setting → Option Lens → Tree → Option Tree → Tree → Type 0
PutsBy S None x o y = y ≡ x
PutsBy S (Some l) x o y = Puts S l x o y

pub record IsPutChild (S : Setting) (b : Option Tree) (e : Name × Child) (f : Name × Tree) : Type 0 where
  pub name : e.0 ≡ f.0
  pub put : PutsBy S (option_lens e.1.lens) e.1.tree (under e.0 b) f.1

-- each name of a list is less than a name
abbrev pub AreBefore : List (Name × Child) → Name → Type 0
AreBefore xs k = (j : ℕ) (d : Name × Child) → j < length xs → name_cmp (get_or xs j d).0 k ≡ Less

-- what is left of a tree from before, behind the children that a loop has taken
pub record IsLeft (b : Option Tree) (xs : List (Name × Child)) (rest : List (Name × Tree)) : Type 0 where
  pub sorted : T (is_sorted name_cmp rest)
  pub later : (k : Name) → AreBefore xs k → find name_cmp k rest ≡ under k b

-- how far a loop has come: what was put of the children so far, and what is left of the tree from before
pub record IsPutSoFar (S : Setting) (b : Option Tree) (xs : List (Name × Child)) (made rest : List (Name × Tree)) : Type 0 where
  pub paired : Paired (IsPutChild S b) xs made
  pub left : IsLeft b xs rest

before_last : (xs : List (Name × Child)) (k q : Name) (c : Child) → AreBefore (xs ++ (k, c) ∷ []) q → AreBefore xs q × (name_cmp k q ≡ Less)
before_last [] k q c h = (λ j d lt. absurd (omega arith), h 0 (k, c) (omega arith))
before_last (x ∷ xs) k q c h =
    let rest = before_last xs k q c (λ j d lt. h (suc j) d (omega arith)) in
    (λ j d lt. go j d lt rest.0, rest.1)
  where
    go : (j : ℕ) (d : Name × Child) → j < length (x ∷ xs) → AreBefore xs q → name_cmp (get_or (x ∷ xs) j d).0 q ≡ Less
    go zero d lt r = h 0 d (omega arith)
    go (suc j) d lt r = r j d (omega arith)

pub none_left : (b : Option Tree) (rest : List (Name × Tree)) → T (is_sorted name_cmp rest) → ((k : Name) → find name_cmp k rest ≡ under k b)
    → IsLeft b [] rest
none_left b rest s f = record { sorted = s; later = λ k h. f k }

pub more_left : (b : Option Tree) (xs : List (Name × Child)) (rest taken left : List (Name × Tree)) (k : Name) (x : Child) → IsLeft b xs rest → left ≡ taken
    → T (is_sorted name_cmp taken) → ((q : Name) → name_cmp k q ≡ Less → find name_cmp q taken ≡ find name_cmp q rest)
    → IsLeft b (xs ++ (k, x) ∷ []) left
more_left b xs rest taken left k x so same s f = subst (IsLeft b (xs ++ (k, x) ∷ [])) (sym same) (record {
  sorted = s;
  later = λ q h. let parts = before_last xs k q x h in f q parts.1 ∙ so.later q parts.0;
})

-- the names that a loop has taken are less than the next one
below_mapped : (n : Name) (es : List (Name × Child)) → T (below_all n (map edge_of es)) → T (below_all n es)
below_mapped n [] h = h
below_mapped n (e ∷ es) h = both _ _ (first _ _ h) (below_mapped n es (second _ _ h))

sorted_mapped : (es : List (Name × Child)) → T (is_sorted name_cmp (map edge_of es)) → T (is_sorted name_cmp es)
sorted_mapped [] h = h
sorted_mapped (e ∷ es) h = both _ _ (below_mapped e.0 es (first _ _ h)) (sorted_mapped es (second _ _ h))

below_cut : (n k : Name) (x : Child) (xs us : List (Name × Child)) → T (below_all n (xs ++ (k, x) ∷ us)) → name_cmp n k ≡ Less
below_cut n k x [] us h = is_less (name_cmp n k) (first _ _ h)
below_cut n k x (e ∷ xs) us h = below_cut n k x xs us (second _ _ h)

sorted_cut : (k : Name) (x : Child) (xs us : List (Name × Child)) → T (is_sorted name_cmp (xs ++ (k, x) ∷ us)) → AreBefore xs k
sorted_cut k x [] us h j d lt = absurd (omega arith)
sorted_cut k x (e ∷ xs) us h zero d lt = below_cut e.0 k x xs us (first _ _ h)
sorted_cut k x (e ∷ xs) us h (suc j) d lt = sorted_cut k x xs us (second _ _ h) j d (omega arith)

pub next_before : (z : Lens) (v : Tree) (es xs us : List (Name × Child)) (k : Name) (x : Child) → AreChildren z v es → es ≡ xs ++ (k, x) ∷ us → AreBefore xs k
next_before z v es xs us k x are cut = sorted_cut k x xs us (subst (λ l. T (is_sorted name_cmp l)) cut sorted)
  where
    sorted : T (is_sorted name_cmp es)
    sorted = sorted_mapped es (subst (λ l. T (is_sorted name_cmp l)) (sym are.edges) (edges_sorted v))

module _ (S : Setting) where
  pub none_put : (b : Option Tree) (made rest : List (Name × Tree)) → made ≡ [] → T (is_sorted name_cmp rest)
      → ((k : Name) → find name_cmp k rest ≡ under k b) → IsPutSoFar S b [] made rest
  none_put b made rest e s f = record { paired = none_paired made e; left = none_left b rest s f }

  pub more_put : (b : Option Tree) (xs : List (Name × Child)) (made more rest taken left : List (Name × Tree)) (k : Name) (x : Child) (y : Tree)
      → IsPutSoFar S b xs made rest → PutsBy S (option_lens x.lens) x.tree (under k b) y → more ≡ made ++ (k, y) ∷ [] → left ≡ taken
      → T (is_sorted name_cmp taken) → ((q : Name) → name_cmp k q ≡ Less → find name_cmp q taken ≡ find name_cmp q rest)
      → IsPutSoFar S b (xs ++ (k, x) ∷ []) more left
  more_put b xs made more rest taken left k x y so p e same s f = record {
    paired = more_paired xs made more (k, x) (k, y) so.paired (record { name = refl; put = p }) e;
    left = more_left b xs rest taken left k x so.left same s f;
  }

  abbrev pub PutsFor : Lens → Option Tree → Name → Tree → Tree → Type 0
  PutsFor z b k x y = PutsBy S (lens_for z k) x (under k b) y

  pub puts_over : (z : Lens) → IsOnChildren z → (v : Tree) (b : Option Tree) (c : Tree) → Puts S z v b c → IsBesideTree (PutsFor z b) v c
  puts_over z on_each v b c (put_each e f) = record { same = e; each = f }
  puts_over z (on_among {ls = ls}) v b c (put_among e f o) = record { same = e; each = λ k x y at there. go k x y (lens_at k ls) refl at there }
    where
      go : (k : Name) (x y : Tree) (l : Option Lens) → lens_at k ls ≡ l → below k v ≡ Some x → below k c ≡ Some y → PutsBy S (lens_at k ls) x (under k b) y
      go k x y None none at there = subst (λ l. PutsBy S l x (under k b) y) (sym none) (same_Some y x (sym there ∙ o k none ∙ at))
      go k x y (Some l) some at there = subst (λ l. PutsBy S l x (under k b) y) (sym some) (f k l x y some at there)

  puts_of : (z : Lens) → IsOnChildren z → (v : Tree) (b : Option Tree) (c : Tree) → IsBesideTree (PutsFor z b) v c → Puts S z v b c
  puts_of z on_each v b c t = put_each t.same t.each
  puts_of z (on_among {ls = ls}) v b c t =
      put_among t.same (λ k l x y some at there. subst (λ l. PutsBy S l x (under k b) y) some (t.each k x y at there))
      (λ k none. go k none (below k v) (below k c) refl refl)
    where
      go : (k : Name) → lens_at k ls ≡ None → (x y : Option Tree) → below k v ≡ x → below k c ≡ y → below k c ≡ below k v
      go k none None None at there = there ∙ sym at
      go k none None (Some y) at there = let w = beside c v (sym t.same) k y there in absurd (none-some w.0 (sym at ∙ w.1))
      go k none (Some x) None at there = let w = beside v c t.same k x at in absurd (none-some w.0 (sym there ∙ w.1))
      go k none (Some x) (Some y) at there = there ∙ ap Some (subst (λ l. PutsBy S l x (under k b) y) none (t.each k x y at there)) ∙ sym at

  put_over : (z : Lens) (b : Option Tree) (e : Name × Child) (f : Name × Tree) → option_lens e.1.lens ≡ lens_for z e.0 → IsPutChild S b e f
      → NamedBy (PutsFor z b) (edge_of e) f
  put_over z b e f lens is = record { name = is.name; is = subst (λ l. PutsBy S l e.1.tree (under e.0 b) f.1) lens is.put }

  module _ (z : Lens) (v : Tree) (b : Option Tree) (es : List (Name × Child)) (on : IsOnChildren z) (are : AreChildren z v es) where
    pub child_put : (i : ℕ) (k : Name) (x : Child) (t : Bor Term) (o : Option Tree) → slice_get es i ≡ Some (k, x) → x.lens ≡ Some t → o ≡ under k b
        → IsPut S z v b
        → IsPut S (lens_of t.now) x.tree o
    child_put i k x t o at some old h =
        let w = puts_over z on v b h.tree h.is in
        let there = child_at z v es i k x are at in
        let y = beside v h.tree w.same k x.tree there in
        record {
          tree = y.0;
          is = subst (λ o. Puts S (lens_of t.now) x.tree o y.0) (sym old)
              (subst (λ l. PutsBy S l x.tree (under k b) y.0) (sym (lens_here z v es i k x are at) ∙ ap option_lens some) (w.each k x.tree y.0 there y.1));
        }

    module _ (xs : List (Name × Child)) (fs rest : List (Name × Tree)) (taken : xs ≡ es) (so : IsPutSoFar S b xs fs rest) where
      pub put_edges : T (are_edges fs)
      put_edges = beside_edges (over_edges z (IsPutChild S b) (PutsFor z b) (put_over z b) v es xs fs are taken so.paired) (edges_are v)

      pub children_put : (c : Tree) → c ≡ node fs → Puts S z v b c
      children_put c is = subst (Puts S z v b) (sym is)
          (puts_of z on v b (node fs) (beside_tree (PutsFor z b) v fs (over_edges z (IsPutChild S b) (PutsFor z b)
          (put_over z b) v es xs fs are taken so.paired)))

  pub put_by_lens : (p : Option (Bor Term)) (t : Bor Term) (x : Tree) (o u : Option Tree) (y w : Tree) → p ≡ Some t → w ≡ y → u ≡ o
      → Puts S (lens_of t.now) x u y
      → PutsBy S (option_lens p) x o w
  put_by_lens p t x o u y w some is old s =
      subst (λ p. PutsBy S (option_lens p) x o w) (sym some) (subst (Puts S (lens_of t.now) x o) (sym is) (subst (λ o. Puts S (lens_of t.now) x o y) old s))

  pub put_by_none : (p : Option (Bor Term)) (x : Tree) (o : Option Tree) (w : Tree) → p ≡ None → w ≡ x → PutsBy S (option_lens p) x o w
  put_by_none p x o w none is = subst (λ p. PutsBy S (option_lens p) x o w) (sym none) is
