-- Names that are greater than all names of edges.
use Rattle.std.proofs.Common.{◌≡◌, ℕ, zero, suc, ◌<◌, ◌↔◌, ◌-◌, T, List, [], ◌∷◌, ◌++◌, length, get_or, Some, slice_get, refl, sym, ap, subst, ◌∙◌, arith}
use Rattle.std.specs.Ordering.{is_lt, nat_cmp, ordering_then}
use Rattle.std.specs.Cmp.{nat_cmp_is}
use Rattle.std.specs.Cmp.Lexicographic.{slice_cmp}
use Rattle.std.specs.declared.cmp.Ordering.{Ordering}
use Rattle.std.specs.declared.cmp.Ordering.TheVariants.{Less, Equal}
use Rattle.std.specs.FinMap.{is_sorted}
use Rattle.hm_tree.specs.Names.{Name, name_cmp}
use Rattle.hm_tree.specs.Nodes.{both, first, second, below_all, are_texts, are_edges, edges_rise, edges_texts, edges_from}
use Rattle.hm_tree.proofs.Sorted.{name_total, is_less}
use Rattle.hm_tree.proofs.Texts.{text_test, text_tested}
use Rattle.std.specs.Str.{IsUtf8, is_utf8}
use Rattle.std.proofs.lemmas.Str.{IsUtf8-from_ascii, IsUtf8-append}
use Rattle.hm_tree_text.specs.Reading.{is_behind, IsAfter}

less_is : (o : Ordering) → o ≡ Less → T (is_lt o)
less_is o e = subst (λ r. T (is_lt r)) (sym e) tt

module _ {X : Type 0} where
  -- the greatest name stands last
  pub behind_last : (n : Name) (es : List (Name × X)) (k : Name) (x : X) → T (is_sorted name_cmp es)
      → slice_get es (length es - 1) ≡ Some (k, x) → name_cmp k n ≡ Less → T (is_behind n es)
  behind_last n [] k x h at less = tt
  behind_last n (e ∷ []) k x h at less = both _ _ (less_is _ (let head : e ≡ (k, x) = cc in ap (λ (d : Name × X). name_cmp d.0 n) head ∙ less)) tt
  behind_last n (e ∷ (f ∷ es)) k x h at less =
      let rest = behind_last n (f ∷ es) k x (second _ _ h)
      (subst (λ i. slice_get (e ∷ (f ∷ es)) i ≡ Some (k, x)) (let s : length (e ∷ (f ∷ es)) - 1 ≡ suc (length (f ∷ es) - 1) = omega arith in
      s) at) less in
      both _ _ (less_is _ (name_total.trans e.0 f.0 n (is_less _ (first _ _ (first _ _ h))) (is_less _ (first _ _ rest)))) rest

  pub last_behind : (n : Name) (es : List (Name × X)) (k : Name) (x : X) → slice_get es (length es - 1) ≡ Some (k, x) → T (is_behind n es)
      → name_cmp k n ≡ Less
  last_behind n [] k x at h = let no : ⊥ = cc in absurd no
  last_behind n (e ∷ []) k x at h = let head : e ≡ (k, x) = cc in ap (λ (d : Name × X). name_cmp d.0 n) (sym head) ∙ is_less _ (first _ _ h)
  last_behind n (e ∷ (f ∷ es)) k x at h = last_behind n (f ∷ es) k x
      (subst (λ i. slice_get (e ∷ (f ∷ es)) i ≡ Some (k, x)) (let s : length (e ∷ (f ∷ es)) - 1 ≡ suc (length (f ∷ es) - 1) = omega arith in s)
      at) (second _ _ h)

  all_below_more : (k n : Name) (x : X) (es : List (Name × X)) → T (below_all k es) → name_cmp k n ≡ Less → T (below_all k (es ++ (n, x) ∷ []))
  all_below_more k n x [] h less = both _ _ (less_is _ less) tt
  all_below_more k n x (e ∷ es) h less = both _ _ (first _ _ h) (all_below_more k n x es (second _ _ h) less)

  sorted_behind : (n : Name) (x : X) (es : List (Name × X)) → T (is_sorted name_cmp es) → T (is_behind n es)
      → T (is_sorted name_cmp (es ++ (n, x) ∷ []))
  sorted_behind n x [] h b = tt
  sorted_behind n x (e ∷ es) h b = both _ _ (all_below_more e.0 n x es (first _ _ h) (is_less _ (first _ _ b)))
      (sorted_behind n x es (second _ _ h) (second _ _ b))

  below_among : (k n : Name) (x : X) (es more : List (Name × X)) → T (below_all k (es ++ (n, x) ∷ more)) → T (is_lt (name_cmp k n))
  below_among k n x [] more h = first _ _ h
  below_among k n x (e ∷ es) more h = below_among k n x es more (second _ _ h)

  -- in order, each name is greater than those before it
  pub behind_sorted : (n : Name) (x : X) (es more : List (Name × X)) → T (is_sorted name_cmp (es ++ (n, x) ∷ more)) → T (is_behind n es)
  behind_sorted n x [] more h = tt
  behind_sorted n x (e ∷ es) more h = both _ _ (below_among e.0 n x es more (first _ _ h)) (behind_sorted n x es more (second _ _ h))

module _ {X : Type 0} where
  texts_behind : (n : Name) (x : X) (es : List (Name × X)) → T (are_texts es) → T (is_utf8 n) → T (are_texts (es ++ (n, x) ∷ []))
  texts_behind n x [] h u = both _ _ u tt
  texts_behind n x (e ∷ es) h u = both _ _ (first _ _ h) (texts_behind n x es (second (is_utf8 e.0) _ h) u)

  -- with an edge of a greater name behind them they are edges
  pub edges_behind : (n : Name) (x : X) (es : List (Name × X)) → T (are_edges es) → IsUtf8 n → T (is_behind n es) → T (are_edges (es ++ (n, x) ∷ []))
  edges_behind n x es h u b = edges_from _ (sorted_behind n x es (edges_rise es h) b) (texts_behind n x es (edges_texts es h) (text_test n u))

  texts_among : (e : Name × X) (es more : List (Name × X)) → T (are_texts (es ++ e ∷ more)) → IsUtf8 e.0
  texts_among e [] more h = text_tested e.0 (first _ _ h)
  texts_among e (d ∷ es) more h = texts_among e es more (second (is_utf8 d.0) _ h)

  -- each name among them is UTF-8
  pub text_among : (e : Name × X) (es more : List (Name × X)) → T (are_edges (es ++ e ∷ more)) → IsUtf8 e.0
  text_among e es more h = texts_among e es more (edges_texts _ h)

  -- a name is greater than all exactly where it is greater than the last
  pub behind_after : (n : Name) (es : List (Name × X)) (k : Name) (x : X) → T (is_sorted name_cmp es)
      → slice_get es (length es - 1) ≡ Some (k, x) → T (is_behind n es) ↔ IsAfter (Some k) n
  behind_after n es k x h at = (last_behind n es k x at, behind_last n es k x h at)

  -- what is greater than a name is greater than all that it is greater than
  pub behind_more : (n k : Name) (es : List (Name × X)) → T (is_behind n es) → name_cmp n k ≡ Less → T (is_behind k es)
  behind_more n k [] h less = tt
  behind_more n k (e ∷ es) h less = both _ _ (less_is _ (name_total.trans e.0 n k (is_less _ (first _ _ h)) less))
      (behind_more n k es (second _ _ h) less)

-- a name goes on to a greater one
abbrev pub longer : Name → Name
longer n = n ++ 97 ∷ []

pub longer_greater : (n : Name) → name_cmp n (longer n) ≡ Less
unfolding name_cmp
longer_greater n = by n
  where
    by : (n : Name) → slice_cmp nat_cmp n (n ++ 97 ∷ []) ≡ Less
    by [] = refl
    by (b ∷ n) = ap (λ o. ordering_then o (slice_cmp nat_cmp n (n ++ 97 ∷ []))) (sym (nat_cmp_is b b Equal refl)) ∙ by n

pub a_text : IsUtf8 (97 ∷ [])
a_text = IsUtf8-from_ascii (97 ∷ []) ascii
  where
    ascii : (i : ℕ) → get_or (97 ∷ []) i 0 < 128
    ascii zero = omega arith
    ascii (suc i) = by i
      where
        by : (i : ℕ) → get_or [] i 0 < 128
        by zero = omega arith
        by (suc i) = omega arith

pub longer_text : (n : Name) → IsUtf8 n → IsUtf8 (longer n)
longer_text n u = IsUtf8-append n (97 ∷ []) u a_text
