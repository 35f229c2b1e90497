-- The least name of two lists of edges is the first of one of them, or of both.
use Rattle.std.proofs.Common.{◌≡◌, T, [], ◌∷◌, length, Some, None, refl, sym, subst, ◌∙◌, arith, inl, inr}
use Rattle.std.specs.FinMap.{is_sorted}
use Rattle.std.specs.Ordering.{is_lt}
use Rattle.std.specs.declared.cmp.Ordering.{Ordering}
use Rattle.std.specs.declared.cmp.Ordering.TheVariants.{Less, Equal, Greater}
use Rattle.hm_tree.specs.Names.{Name, name_cmp}
use Rattle.hm_tree.specs.Nodes.{Tree, below_all, first, second, both}
use Rattle.hm_tree.proofs.Sorted.{name_total, name_one, is_less, back_greater, not_None}
use Rattle.hm_changes.specs.Taken.{Edges, IsTaken}

less_holds : (o : Ordering) → o ≡ Less → T (is_lt o)
less_holds o e = subst (λ (x : Ordering). T (is_lt x)) (sym e) tt

below_later : (k n : Name) → name_cmp k n ≡ Less → (es : Edges) → T (below_all n es) → T (below_all k es)
below_later k n less [] h = tt
below_later k n less (e ∷ es) h =
    both _ _ (less_holds (name_cmp k e.0) (name_total.trans k n e.0 less (is_less _ (first _ _ h)))) (below_later k n less es (second (is_lt (name_cmp n e.0)) _ h))

rest_below : (es : Edges) (e : Name × Tree) (left : Edges) → es ≡ e ∷ left → T (is_sorted name_cmp es) → T (below_all e.0 left)
rest_below es e left is rise = first _ _ (subst (λ (x : Edges). T (is_sorted name_cmp x)) is rise)

before_first : (k : Name) (es : Edges) (e : Name × Tree) (left : Edges) → es ≡ e ∷ left → T (is_sorted name_cmp es) → name_cmp k e.0 ≡ Less → T (below_all k es)
before_first k es e left is rise less = subst (λ (x : Edges). T (below_all k x)) (sym is)
    (both _ _ (less_holds (name_cmp k e.0) less) (below_later k e.0 less left (rest_below es e left is rise)))

before_nothing : (k : Name) (es : Edges) → length es ≡ 0 → T (below_all k es)
before_nothing k [] e = tt
before_nothing k (x ∷ xs) e = absurd (omega arith)

module _ (olds news : Edges) (rise_olds : T (is_sorted name_cmp olds)) (rise_news : T (is_sorted name_cmp news)) where
  old_taken : (e : Name × Tree) (left : Edges) → olds ≡ e ∷ left → T (below_all e.0 news) → IsTaken olds news e.0 (Some e.1) None left news
  old_taken e left is before = record {
    are_olds = is;
    are_news = refl;
    before_olds = rest_below olds e left is rise_olds;
    before_news = before;
    there = inl (not_None e.1);
  }

  new_taken : (e : Name × Tree) (left : Edges) → news ≡ e ∷ left → T (below_all e.0 olds) → IsTaken olds news e.0 None (Some e.1) olds left
  new_taken e left is before = record {
    are_olds = refl;
    are_news = is;
    before_olds = before;
    before_news = rest_below news e left is rise_news;
    there = inr (not_None e.1);
  }

  pub old_left : (e : Name × Tree) (left : Edges) → olds ≡ e ∷ left → length news ≡ 0 → IsTaken olds news e.0 (Some e.1) None left news
  old_left e left is none = old_taken e left is (before_nothing e.0 news none)

  pub new_left : (e : Name × Tree) (left : Edges) → news ≡ e ∷ left → length olds ≡ 0 → IsTaken olds news e.0 None (Some e.1) olds left
  new_left e left is none = new_taken e left is (before_nothing e.0 olds none)

  module _ (e f : Name × Tree) (es fs : Edges) (is_old : olds ≡ e ∷ es) (is_new : news ≡ f ∷ fs) where
    pub old_first : name_cmp e.0 f.0 ≡ Less → IsTaken olds news e.0 (Some e.1) None es news
    old_first less = old_taken e es is_old (before_first e.0 news f fs is_new rise_news less)

    pub new_first : name_cmp e.0 f.0 ≡ Greater → IsTaken olds news f.0 None (Some f.1) olds fs
    new_first greater = new_taken f fs is_new (before_first f.0 olds e es is_old rise_olds (back_greater f.0 e.0 greater))

    pub both_first : name_cmp e.0 f.0 ≡ Equal → IsTaken olds news e.0 (Some e.1) (Some f.1) es fs
    both_first tie =
        let same : f.0 ≡ e.0 = sym (name_one e.0 f.0 tie) in record {
          are_olds = is_old;
          are_news = is_new ∙ (λ i. (same i, f.1) ∷ fs);
          before_olds = rest_below olds e es is_old rise_olds;
          before_news = subst (λ (x : Name). T (below_all x fs)) same (rest_below news f fs is_new rise_news);
          there = inl (not_None e.1);
        }
