-- What a search finds among edges, and what an edit at that place does.
use Rattle.std.proofs.Common.{◌≡◌, ℕ, zero, suc, ◌+◌, ◌-◌, ◌<◌, ◌≤◌, ◌≢◌, Bool, true, false, cond, not, T, List, [], ◌∷◌, length, get_or, slice_get, Some, None, Result, Ok, Err, IfOk, IfErr, refl, sym, ap, subst, ◌∙◌, arith, inl, inr}
use Rattle.std.specs.Ordering.{is_lt, is_eq, eq_by_cmp, ordering_index, ordering_reverse}
use Rattle.std.specs.declared.cmp.Ordering.{Ordering}
use Rattle.std.specs.declared.cmp.Ordering.TheVariants.{Less, Equal, Greater}
use Rattle.std.proofs.lemmas.Cmp.{tied_itself, alike_right}
use Rattle.std.specs.FinMap.{is_sorted, find, put}
use Rattle.std.specs.FinMap.Entries.{find-put, is_sorted-put, is_sorted-where_key}
use Rattle.std.specs.List.{insert, remove, filter}
use Rattle.std.specs.List.Sorted.{IsSearchInRange, IsBinarySearchResult, IsNonDecreasingBy}
use Rattle.std.proofs.lemmas.Option.{slice_get_read, get_or_from_slice_get, slice_get_cases}
use Rattle.std.proofs.lemmas.List.Sorted.{searchable_from_sorted}
use Rattle.std.proofs.lemmas.List.{get_or_default}
use Rattle.std.specs.Str.{is_utf8, IsUtf8}
use Rattle.std.proofs.lemmas.Bool.{cases_lt, cond_both}
use Rattle.hm_tree.specs.Names.{Name, name_cmp}
pub use Rattle.hm_tree.specs.NameLaws.{name_total, name_one}
use Rattle.hm_tree.specs.Nodes.{Node, node, edges, below, Tree, with_edge, without_edge, both, first, second, below_all, are_texts, are_edges, edges_rise, edges_texts, edges_from}
use Rattle.hm_tree.specs.NodeLaws.{edges-node, edges_sorted, edges_are, node-edges, tree_unmarked}
use Rattle.hm_tree.specs.Edges.{rank, IsPlaceOf, IsGapFor}
use Rattle.hm_tree.proofs.Texts.{text_test}

-- what a value of the type with these edges is seen as
pub edges_seen : {m : Bool} (es : List (Name × Node m)) (t : Node m) → T (are_edges es) → node es ≡ t → edges t ≡ es
edges_seen es t h e = ap edges (sym e) ∙ edges-node es h

-- the laws of a value and its edges
pub ruleset seen = (edges_seen, edges-node, slice_get_read)

pub not_None : {A : Type 0} (x : A) → Some x ≢ None
not_None x e = cc

pub is_less : (o : Ordering) → T (is_lt o) → o ≡ Less
is_less Less p = refl
is_less Equal p = absurd p
is_less Greater p = absurd p

pub back_equal : (a b : Name) → name_cmp b a ≡ Equal → name_cmp a b ≡ Equal
back_equal a b e = name_total.antisymm a b ∙ ap ordering_reverse e

pub back_less : (a b : Name) → name_cmp b a ≡ Less → name_cmp a b ≡ Greater
back_less a b e = name_total.antisymm a b ∙ ap ordering_reverse e

pub back_greater : (a b : Name) → name_cmp b a ≡ Greater → name_cmp a b ≡ Less
back_greater a b e = name_total.antisymm a b ∙ ap ordering_reverse e

module _ {X : Type 0} where
  each_above : (x : Name) (es : List (Name × X)) (j : ℕ) (d : Name × X) → T (below_all x es) → j < length es → name_cmp x (get_or es j d).0 ≡ Less
  each_above x [] j d h lt = absurd (omega arith)
  each_above x (e ∷ es) zero d h lt = is_less _ (first _ _ h)
  each_above x (e ∷ es) (suc j) d h lt = each_above x es j d (second _ _ h) (omega arith)

  pub rises : (es : List (Name × X)) → T (is_sorted name_cmp es) → (i j : ℕ) (d : Name × X) → i < j → j < length es
      → name_cmp (get_or es i d).0 (get_or es j d).0 ≡ Less
  rises [] h i j d lt within = absurd (omega arith)
  rises (e ∷ es) h i zero d lt within = absurd (omega arith)
  rises (e ∷ es) h zero (suc j) d lt within = each_above e.0 es j d (first _ _ h) (omega arith)
  rises (e ∷ es) h (suc i) (suc j) d lt within = rises es (second _ _ h) i j d (omega arith) (omega arith)

  -- the place of a name by what stands before it and at it
  rank_is : (k : Name) (es : List (Name × X)) (i : ℕ) → i ≤ length es → ((j : ℕ) (d : Name × X) → j < i → name_cmp (get_or es j d).0 k ≡ Less)
      → ((d : Name × X) → i < length es → is_lt (name_cmp (get_or es i d).0 k) ≡ false) → i ≡ rank k es
  rank_is k [] i le before at = omega arith
  rank_is k (e ∷ es) zero le before at = rw (at e (omega arith)) refl
  rank_is k (e ∷ es) (suc i) le before at =
      let here = before 0 e (omega arith) in
      rw here (ap suc (rank_is k es i (omega arith) (λ j d lt. before (suc j) d (omega arith)) (λ d lt. at d (omega arith))))

  -- a name that ties at its place is found there
  found_at : (k : Name) (es : List (Name × X)) → T (is_sorted name_cmp es) → (i : ℕ) (d : Name × X) → i < length es
      → name_cmp (get_or es i d).0 k ≡ Equal → find name_cmp k es ≡ Some (get_or es i d).1
  found_at k [] h i d lt e = absurd (omega arith)
  found_at k (x ∷ es) h zero d lt e = rw (back_equal k x.0 e) refl
  found_at k (x ∷ es) h (suc i) d lt e =
      let above = each_above x.0 es i d (first _ _ h) (omega arith) in
      let back : name_cmp k x.0 ≡ Greater = name_total.antisymm k x.0 ∙ ap ordering_reverse (sym (alike_right name_total _ k x.0 e) ∙ above) in
      rw back (found_at k es (second _ _ h) i d (omega arith) e)

  -- a name that ties with none isn't found
  pub not_found : (k : Name) (es : List (Name × X)) → ((j : ℕ) (d : Name × X) → j < length es → is_eq (name_cmp k (get_or es j d).0) ≡ false)
      → find name_cmp k es ≡ None
  not_found k [] h = refl
  not_found k (e ∷ es) h = rw (h 0 e (omega arith)) (not_found k es (λ j d lt. h (suc j) d (omega arith)))

  -- comparisons with k rise along the list, as a binary search asks
  searchable : (k : Name) (es : List (Name × X)) → T (is_sorted name_cmp es) → IsNonDecreasingBy (λ e. ordering_index (name_cmp e.0 k)) es
  searchable k es h = searchable_from_sorted name_total (λ e. e.0) es k (λ i d low lt.
      ap is_lt (back_less _ _ (rises es h i (i + 1) d (omega arith) lt)))

  pub searched : (k : Name) (es : List (Name × X)) → T (is_sorted name_cmp es) → (r : Result ℕ ℕ) → IsSearchInRange r (length es)
      → IsBinarySearchResult (λ e. name_cmp e.0 k) es r →
      record { found : IfOk r (IsPlaceOf k es); absent : IfErr r (IsGapFor k es) }
  searched k es h (Ok i) within equal = record {
    found = record {
      place = rank_is k es i (omega arith) (λ j d lt. sym (alike_right name_total _ k _ (equal d)) ∙ rises es h j i d lt within)
          (λ d lt. ap is_lt (equal d));
      in_range = within;
      found = λ d. found_at k es h i d within (equal d);
    };
    absent = tt;
  }
  searched k es h (Err i) within parted =
      let p = parted (searchable k es h) in
      record {
        found = tt;
        absent = record {
          place = rank_is k es i within (λ j d lt. p.0 j d (omega arith) lt) (λ d lt. ap is_lt (p.1 i d (omega arith) lt));
          in_range = within;
          absent = not_found k es (λ j d lt. elim (cases_lt j i) [
            | inl below ↦ ap is_eq (back_less k _ (p.0 j d (omega arith) below))
            | inr above ↦ ap is_eq (back_greater k _ (p.1 j d above lt))
          ]);
        };
      }

  -- a name's place is where it was read
  pub place_read : (k : Name) (es : List (Name × X)) → T (is_sorted name_cmp es) → (i : ℕ) (e : Name × X) → i < length es
      → (get_or es i e).0 ≡ k → IsPlaceOf k es i
  place_read k es h i e lt same = (searched k es h (Ok i) lt tied).found
    where
      tied : (d : Name × X) → name_cmp (get_or es i d).0 k ≡ Equal
      tied d = ap (λ (x : Name × X). name_cmp x.0 k) (get_or_default es i d e lt) ∙ ap (λ x. name_cmp x k) same ∙ tied_itself name_total k

  -- an edge whose name is missing goes to its place
  pub put_rank : (k : Name) (v : X) (es : List (Name × X)) → find name_cmp k es ≡ None → put name_cmp k v es ≡ insert es (rank k es) (k, v)
  put_rank k v [] none = refl
  put_rank k v (e ∷ es) none = go (name_cmp k e.0) refl (put_rank k v es)
    where
      go : (r : Ordering) → name_cmp k e.0 ≡ r → (find name_cmp k es ≡ None → put name_cmp k v es ≡ insert es (rank k es) (k, v))
          → put name_cmp k v (e ∷ es) ≡ insert (e ∷ es) (rank k (e ∷ es)) (k, v)
      go Less p rest = rw (p, back_less e.0 k p) refl
      go Equal p rest = let some : Some e.1 ≡ None = rw p at none in absurd (not_None _ some)
      go Greater p rest = let gone : find name_cmp k es ≡ None = rw p at none in rw (p, back_greater e.0 k p) (ap (λ l. e ∷ l) (rest gone))

  keeps_all : (k : Name) (es : List (Name × X)) → T (below_all k es) → filter (λ e. not (eq_by_cmp name_cmp k e.0)) es ≡ es
  keeps_all k [] h = refl
  keeps_all k (e ∷ es) h = rw (is_less (name_cmp k e.0) (first _ _ h)) (ap (λ l. e ∷ l) (keeps_all k es (second _ _ h)))

  none_above : (k : Name) (es : List (Name × X)) → T (below_all k es) → find name_cmp k es ≡ None
  none_above k [] h = refl
  none_above k (e ∷ es) h = rw (is_less (name_cmp k e.0) (first _ _ h)) (none_above k es (second _ _ h))

  above_too : (k x : Name) (es : List (Name × X)) → name_cmp k x ≡ Less → T (below_all x es) → T (below_all k es)
  above_too k x [] p h = tt
  above_too k x (e ∷ es) p h = both _ _ (subst (λ r. T (is_lt r)) (sym (name_total.trans k x e.0 p (is_less _ (first _ _ h)))) tt)
      (above_too k x es p (second _ _ h))

  -- the edge under a name that is there goes from its place
  pub filter_rank : (k : Name) (v : X) (es : List (Name × X)) → T (is_sorted name_cmp es) → find name_cmp k es ≡ Some v
      → filter (λ e. not (eq_by_cmp name_cmp k e.0)) es ≡ remove es (rank k es)
  filter_rank k v [] h some = absurd (not_None _ (sym some))
  filter_rank k v (e ∷ es) h some = go (name_cmp k e.0) refl (filter_rank k v es (second _ _ h))
    where
      go : (r : Ordering) → name_cmp k e.0 ≡ r
          → (find name_cmp k es ≡ Some v → filter (λ e. not (eq_by_cmp name_cmp k e.0)) es ≡ remove es (rank k es))
          → filter (λ e. not (eq_by_cmp name_cmp k e.0)) (e ∷ es) ≡ remove (e ∷ es) (rank k (e ∷ es))
      go Less p rest =
          let there : find name_cmp k es ≡ Some v = rw p at some in
          absurd (not_None _ (sym there ∙ none_above k es (above_too k e.0 es p (first _ _ h))))
      go Equal p rest = rw (p, back_equal e.0 k p) (keeps_all k es (subst (λ x. T (below_all x es)) (sym (name_one k e.0 p)) (first _ _ h)))
      go Greater p rest = let there : find name_cmp k es ≡ Some v = rw p at some in rw (p, back_greater e.0 k p) (ap (λ l. e ∷ l) (rest there))

  pub sorted_put : (k : Name) (v : X) (es : List (Name × X)) → T (is_sorted name_cmp es) → T (is_sorted name_cmp (put name_cmp k v es))
  sorted_put k v es h = is_sorted-put name_cmp name_total k v es h

  sorted_filter : (k : Name) (es : List (Name × X)) → T (is_sorted name_cmp es)
      → T (is_sorted name_cmp (filter (λ e. not (eq_by_cmp name_cmp k e.0)) es))
  sorted_filter k es h = is_sorted-where_key name_cmp (λ x. not (eq_by_cmp name_cmp k x)) es h

  texts_filter : (p : Name × X → Bool) (es : List (Name × X)) → T (are_texts es) → T (are_texts (filter p es))
  texts_filter p [] h = tt
  texts_filter p (e ∷ es) h =
      let rest = texts_filter p es (second (is_utf8 e.0) _ h) in
      cond_both (p e) (e ∷ filter p es) (filter p es) (λ l. T (are_texts l)) (λ _. both _ _ (first _ _ h) rest) (λ _. rest)

  texts_put : (k : Name) (v : X) (es : List (Name × X)) → T (is_utf8 k) → T (are_texts es) → T (are_texts (put name_cmp k v es))
  texts_put k v [] u h = both _ _ u tt
  texts_put k v (e ∷ es) u h = go (name_cmp k e.0) refl (texts_put k v es u (second (is_utf8 e.0) _ h))
    where
      go : (r : Ordering) → name_cmp k e.0 ≡ r → T (are_texts (put name_cmp k v es)) → T (are_texts (put name_cmp k v (e ∷ es)))
      go Less p rest = rw p (both _ _ u h)
      go Equal p rest = rw p h
      go Greater p rest = rw p (both _ _ (first _ _ h) rest)

  -- with an edge put in, and with one taken out, they are edges
  pub edges_put : (k : Name) (v : X) (es : List (Name × X)) → IsUtf8 k → T (are_edges es) → T (are_edges (put name_cmp k v es))
  edges_put k v es u h = edges_from _ (sorted_put k v es (edges_rise es h)) (texts_put k v es (text_test k u) (edges_texts es h))

  pub edges_filter : (k : Name) (es : List (Name × X)) → T (are_edges es) → T (are_edges (filter (λ e. not (eq_by_cmp name_cmp k e.0)) es))
  edges_filter k es h = edges_from _ (sorted_filter k es (edges_rise es h)) (texts_filter (λ e. not (eq_by_cmp name_cmp k e.0)) es (edges_texts es h))

  keeps_missing : (k : Name) (es : List (Name × X)) → find name_cmp k es ≡ None → filter (λ e. not (eq_by_cmp name_cmp k e.0)) es ≡ es
  keeps_missing k [] h = refl
  keeps_missing k (e ∷ es) h = go (eq_by_cmp name_cmp k e.0) refl (keeps_missing k es)
    where
      go : (b : Bool) → eq_by_cmp name_cmp k e.0 ≡ b → (find name_cmp k es ≡ None → filter (λ e. not (eq_by_cmp name_cmp k e.0)) es ≡ es)
          → filter (λ e. not (eq_by_cmp name_cmp k e.0)) (e ∷ es) ≡ e ∷ es
      go true p rest = let some : Some e.1 ≡ None = rw p at h in absurd (not_None _ some)
      go false p rest = let gone : find name_cmp k es ≡ None = rw p at h in rw p (ap (λ l. e ∷ l) (rest gone))

-- the same, by what a value of the type is seen as
module _ {m : Bool} (es : List (Name × Node m)) (t : Node m) (h : T (are_edges es)) (seen_as : node es ≡ t) where
  pub insert_is : (k : Name) (c : Node m) (i : ℕ) → IsGapFor k (edges t) i → insert es i (k, c) ≡ put name_cmp k c (edges t)
  insert_is k c i gap =
      let e = edges_seen es t h seen_as in
      rw (gap.place, ← e) (sym (put_rank k c (edges t) gap.absent))

  pub remove_is : (k : Name) (i : ℕ) → IsPlaceOf k (edges t) i → remove es i ≡ filter (λ e. not (eq_by_cmp name_cmp k e.0)) (edges t)
  remove_is k i at =
      let e = edges_seen es t h seen_as in
      rw (at.place, ← e) (sym (filter_rank k (get_or (edges t) i (k, t)).1 (edges t) (edges_sorted t) (at.found (k, t))))

pub without_missing : (k : Name) (t : Tree) → below k t ≡ None → t ≡ without_edge k t
without_missing k t none = sym (ap node (keeps_missing k (edges t) none) ∙ node-edges t (tree_unmarked t))

-- what stands under a name once an edge was put in
pub below_with : {m : Bool} (q k : Name) (c t : Node m) → IsUtf8 k → below q (with_edge k c t) ≡ cond (eq_by_cmp name_cmp q k) (Some c) (below q t)
below_with q k c t u = ap (find name_cmp q) (edges-node (put name_cmp k c (edges t)) (edges_put k c (edges t) u (edges_are t)))
    ∙ find-put name_cmp name_total q k c (edges t)

slice_get_within : {X : Type 0} (xs : List X) (i : ℕ) (x : X) → slice_get xs i ≡ Some x → i < length xs
slice_get_within xs i x e = elim ((slice_get_cases xs i).1) [ inl w ↦ w.1 | inr w ↦ absurd (not_None x (sym e ∙ w.1)) ]

-- a name greater than the last one would go to the end
pub past : {X : Type 0} (k : Name) (es : List (Name × X)) → T (is_sorted name_cmp es) → (d : Name × X) → slice_get es (length es - 1) ≡ Some d
    → name_cmp d.0 k ≡ Less → IsGapFor k es (length es)
past {X = X} k es h d e less = record {
  place = rank_is k es (length es) (omega arith) (λ j x lt. before j x lt) (λ x lt. absurd (omega arith));
  in_range = omega arith;
  absent = not_found k es (λ j x lt. ap is_eq (back_less k _ (before j x lt)));
}
  where
    within : length es - 1 < length es
    within = slice_get_within es (length es - 1) d e

    last_is : (x : Name × X) → get_or es (length es - 1) x ≡ d
    last_is x = get_or_from_slice_get es (length es - 1) d x e

    before : (j : ℕ) (x : Name × X) → j < length es → name_cmp (get_or es j x).0 k ≡ Less
    before j x lt = elim (cases_lt j (length es - 1)) [
      | inl early ↦ name_total.trans _ _ _ (rises es h j (length es - 1) x early within) (ap (λ (y : Name × X). name_cmp y.0 k) (last_is x) ∙ less)
      | inr above ↦ let same : j ≡ length es - 1 = omega arith in ap (λ i. name_cmp (get_or es i x).0 k) same
          ∙ ap (λ (y : Name × X). name_cmp y.0 k) (last_is x) ∙ less
    ]

-- an edge's child stands under its name
pub below_edge : {m : Bool} (t : Node m) (i : ℕ) (k : Name) (c : Node m) → slice_get (edges t) i ≡ Some (k, c) → below k t ≡ Some c
below_edge {m = m} t i k c e =
    let read = get_or_from_slice_get (edges t) i (k, c) (k, c) e in
    let within = slice_get_within (edges t) i (k, c) e in
    found_at k (edges t) (edges_sorted t) i (k, c) within (ap (λ (x : Name × Node m). name_cmp x.0 k) read ∙ tied_itself name_total k)
    ∙ ap (λ (x : Name × Node m). Some x.1) read

-- in order, what is at a place is found
pub found_in_order : {X : Type 0} (es : List (Name × X)) → T (is_sorted name_cmp es) → (i : ℕ) (e : Name × X) → slice_get es i ≡ Some e → find name_cmp e.0 es ≡ Some e.1
found_in_order {X} es rise i e at =
    let within = slice_get_within es i e at in
    let read : get_or es i e ≡ e = get_or_from_slice_get es i e e at in
    let place = place_read e.0 es rise i e within (ap (λ (x : Name × X). x.0) read) in
    place.found e ∙ ap (λ (x : Name × X). Some x.1) read
