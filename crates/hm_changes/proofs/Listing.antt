-- The changes of two nodes are listed name by name.
use Rattle.std.proofs.Common.{◌≡◌, ◌≢◌, ◌↔◌, ◌⊎◌, Bool, false, cond, T, List, [], ◌∷◌, ◌++◌, map, Option, Some, None, refl, sym, ap, subst, ◌∙◌, inl, inr}
use Rattle.std.specs.List.{Contains}
use Rattle.std.specs.List.Sorted.{IsStrictlySortedBy}
use Rattle.std.specs.FinMap.{find, is_sorted}
use Rattle.std.specs.Ordering.{is_lt, is_eq, eq_by_cmp, ordering_then}
use Rattle.std.specs.declared.cmp.Ordering.{Ordering}
use Rattle.std.specs.declared.cmp.Ordering.TheVariants.{Less, Equal, Greater}
use Rattle.std.proofs.lemmas.Cmp.{tied_itself}
use Rattle.std.proofs.lemmas.List.Elements.{Contains-append_left, Contains-append_right, Contains-append_cases}
use Rattle.hm_tree.specs.Names.{Name, name_cmp}
use Rattle.hm_tree.specs.Nodes.{Tree, below_all, first, second, both, edges, below}
use Rattle.hm_tree.specs.PathOrder.{path_cmp}
use Rattle.hm_tree.specs.States.{Path, View, state}
use Rattle.hm_tree.proofs.Sorted.{name_total, name_one, is_less}
use Rattle.hm_tree.proofs.PathLaws.{same_front}
use Rattle.hm_changes.specs.declared.change.Change.{Change}
use Rattle.hm_changes.specs.declared.change.Turn.{Turn}
use Rattle.hm_changes.specs.Changes.{IsTopmost, AreChanges, from}
use Rattle.hm_changes.specs.Taken.{Edges, in_front, IsTaken}
use Rattle.hm_changes.proofs.Lists.{contains_nothing, contains_map, map_contains, ascending_append, ascending_map, map_append}
use Rattle.hm_changes.proofs.Tops.{change, nothing_turns, turned_apart, top_down, top_up, at_root, below_name}

-- a name that is less than all that are left
abbrev IsPast : Name → Edges → Edges → Type 0
IsPast k es fs = T (below_all k es) × T (below_all k fs)

-- of the edges of two nodes some are left, and the changes below the other names are listed
pub record AreListed (olds news es fs : Edges) (changes : List Change) : Type 0 where
  pub rise_olds : T (is_sorted name_cmp es)
  pub rise_news : T (is_sorted name_cmp fs)
  pub ascending : IsStrictlySortedBy path_cmp (map (λ c. c.path) changes)
  pub root : (t : Turn) → ¬ (Contains changes (change t []))
  pub each : (t : Turn) (k : Name) (p : Path)
      → Contains changes (change t (k ∷ p)) ↔ (IsPast k es fs × IsTopmost (state (find name_cmp k olds)) (state (find name_cmp k news)) (change t p))
  pub left_olds : (k : Name) → (find name_cmp k olds ≡ find name_cmp k es) ⊎ IsPast k es fs
  pub left_news : (k : Name) → (find name_cmp k news ≡ find name_cmp k fs) ⊎ IsPast k es fs

none_after : (n : Name) (es : Edges) → T (below_all n es) → find name_cmp n es ≡ None
none_after n [] h = refl
none_after n (e ∷ es) h = rw (is_less (name_cmp n e.0) (first _ _ h)) (none_after n es (second (is_lt (name_cmp n e.0)) _ h))

-- ---- at the start

nothing_there : (t : Turn) (p : Path) (o n : Option Tree) → o ≡ None → n ≡ None → IsTopmost (state o) (state n) (change t p) → ⊥
nothing_there t p o n gone went top =
    nothing_turns t p (subst (λ (x : Option Tree). IsTopmost (state {m = false} None) (state x) (change t p)) went
    (subst (λ (x : Option Tree). IsTopmost (state x) (state n) (change t p)) gone top))

pub none_listed : (olds news : Edges) → T (is_sorted name_cmp olds) → T (is_sorted name_cmp news) → AreListed olds news olds news []
unfolding IsStrictlySortedBy
none_listed olds news rise_olds rise_news = record {
  rise_olds = rise_olds;
  rise_news = rise_news;
  ascending = tt;
  root = λ t c. contains_nothing (change t []) c;
  each = λ t k p. (
    (λ c. absurd (contains_nothing (change t (k ∷ p)) c)),
    (λ h. absurd (nothing_there t p (find name_cmp k olds) (find name_cmp k news) (none_after k olds h.0.0) (none_after k news h.0.1) h.1)),
  );
  left_olds = λ k. inl refl;
  left_news = λ k. inl refl;
}

-- ---- one name more

rest_rises : (k : Name) (o : Option Tree) (es : Edges) → T (is_sorted name_cmp (in_front k o es)) → T (is_sorted name_cmp es)
rest_rises k None es h = h
rest_rises k (Some t) es h = second _ _ h

abbrev ties : Name → Name → Bool
ties k n = eq_by_cmp name_cmp k n

find_front : (k : Name) (o : Option Tree) (es : Edges) → T (below_all k es) → find name_cmp k (in_front k o es) ≡ o
find_front k None es h = none_after k es h
find_front k (Some t) es h = ap (λ r. cond (is_eq r) (Some t) (find name_cmp k es)) (tied_itself name_total k)

find_other : (n k : Name) (o : Option Tree) (es : Edges) → ties n k ≡ false → find name_cmp n (in_front k o es) ≡ find name_cmp n es
find_other n k None es apart = refl
find_other n k (Some t) es apart = ap (λ b. cond b (Some t) (find name_cmp n es)) apart

past_rest : (n k : Name) (o : Option Tree) (es : Edges) → T (below_all n (in_front k o es)) → T (below_all n es)
past_rest n k None es h = h
past_rest n k (Some t) es h = second (is_lt (name_cmp n k)) _ h

past_front : (n k : Name) (o : Option Tree) (es : Edges) → name_cmp n k ≡ Less → T (below_all n es) → T (below_all n (in_front k o es))
past_front n k None es less h = h
past_front n k (Some t) es less h = both _ _ (subst (λ (r : Ordering). T (is_lt r)) (sym less) tt) h

less_than_first : (n k : Name) (o : Option Tree) (es : Edges) → o ≢ None → T (below_all n (in_front k o es)) → name_cmp n k ≡ Less
less_than_first n k None es there h = absurd (there refl)
less_than_first n k (Some t) es there h = is_less _ (first _ _ h)

not_tied : (n k : Name) (r : Ordering) → name_cmp n k ≡ r → r ≢ Equal → ties n k ≡ false
not_tied n k Less e other = ap is_eq e
not_tied n k Equal e other = absurd (other refl)
not_tied n k Greater e other = ap is_eq e

under_one : (t : Turn) (n k : Name) (p : Path) (c : Change) → change t (n ∷ p) ≡ from (k ∷ []) c → (n ≡ k) × (change t p ≡ c)
under_one t n k p c e =
    let path : n ∷ p ≡ k ∷ c.path = ap (λ x. x.path) e in
    let turn : t ≡ c.turn = ap (λ x. x.turn) e in
    let name : n ≡ k = cc in
    let rest : p ≡ c.path = cc in
    (name, λ i. record { turn = turn i; path = rest i })

module _ (olds news : Edges) (k : Name) (old new : Option Tree) (es fs : Edges) (changes : List Change)
    (listed : AreListed olds news (in_front k old es) (in_front k new fs) changes) (there : (old ≢ None) ⊎ (new ≢ None)) where
  earlier : (n : Name) → IsPast n (in_front k old es) (in_front k new fs) → name_cmp n k ≡ Less
  earlier n past = elim there [
    | inl o ↦ less_than_first n k old es o past.0
    | inr o ↦ less_than_first n k new fs o past.1
  ]

  not_earlier : (n : Name) (r : Ordering) → name_cmp n k ≡ r → r ≢ Less → IsPast n (in_front k old es) (in_front k new fs) → ⊥
  not_earlier n r e other past = other (sym e ∙ earlier n past)

  itself : name_cmp k k ≡ Equal
  itself = tied_itself name_total k

  old_here : T (below_all k es) → find name_cmp k olds ≡ old
  old_here before_es = elim (listed.left_olds k) [
    | inl e ↦ e ∙ find_front k old es before_es
    | inr past ↦ absurd (not_earlier k Equal itself (λ e. let f : ⊥ = cc in f) past)
  ]

  new_here : T (below_all k fs) → find name_cmp k news ≡ new
  new_here before_fs = elim (listed.left_news k) [
    | inl e ↦ e ∙ find_front k new fs before_fs
    | inr past ↦ absurd (not_earlier k Equal itself (λ e. let f : ⊥ = cc in f) past)
  ]

module _ (olds news : Edges) (k : Name) (old new : Option Tree) (es fs : Edges) (changes more : List Change)
    (listed : AreListed olds news (in_front k old es) (in_front k new fs) changes) (there : (old ≢ None) ⊎ (new ≢ None))
    (before_es : T (below_all k es)) (before_fs : T (below_all k fs)) (are : AreChanges (state old) (state new) more) where
  abbrev added : List Change
  added = map (from (k ∷ [])) more

  abbrev before_it : (n : Name) → IsPast n (in_front k old es) (in_front k new fs) → name_cmp n k ≡ Less
  before_it = earlier olds news k old new es fs changes listed there

  abbrev not_past : (n : Name) (r : Ordering) → name_cmp n k ≡ r → r ≢ Less → IsPast n (in_front k old es) (in_front k new fs) → ⊥
  not_past = not_earlier olds news k old new es fs changes listed there

  later_past : (n : Name) → IsPast n (in_front k old es) (in_front k new fs) → IsPast n es fs
  later_past n past = (past_rest n k old es past.0, past_rest n k new fs past.1)

  old_is : find name_cmp k olds ≡ old
  old_is = old_here olds news k old new es fs changes listed there before_es

  new_is : find name_cmp k news ≡ new
  new_is = new_here olds news k old new es fs changes listed there before_fs

  abbrev IsTop : Turn → Name → Path → Type 0
  IsTop t n p = IsTopmost (state (find name_cmp n olds)) (state (find name_cmp n news)) (change t p)

  as_here : (t : Turn) (p : Path) → IsTopmost (state old) (state new) (change t p) → IsTop t k p
  as_here t p top = subst (λ (x : Option Tree). IsTopmost (state x) (state (find name_cmp k news)) (change t p)) (sym old_is)
      (subst (λ (x : Option Tree). IsTopmost (state old) (state x) (change t p)) (sym new_is) top)

  from_here : (t : Turn) (p : Path) → IsTop t k p → IsTopmost (state old) (state new) (change t p)
  from_here t p top = subst (λ (x : Option Tree). IsTopmost (state x) (state new) (change t p)) old_is
      (subst (λ (x : Option Tree). IsTopmost (state (find name_cmp k olds)) (state x) (change t p)) new_is top)

  forth : (t : Turn) (n : Name) (p : Path) → Contains (changes ++ added) (change t (n ∷ p)) → IsPast n es fs × IsTop t n p
  forth t n p c = elim (Contains-append_cases changes added (change t (n ∷ p)) c) [
    | inl c ↦ let h = (listed.each t n p).0 c in (later_past n h.0, h.1)
    | inr c ↦
        let m = map_contains (from (k ∷ [])) more (change t (n ∷ p)) c in
        let same = under_one t n k p m.0 m.1 in
        let top : IsTopmost (state old) (state new) (change t p) = (are.each (change t p)).0 (subst (Contains more) (sym same.1) m.2) in
        subst (λ (x : Name). IsPast x es fs × IsTop t x p) (sym same.0) ((before_es, before_fs), as_here t p top)
  ]

  gone_olds : (n : Name) → name_cmp n k ≡ Greater → T (below_all n es) → find name_cmp n olds ≡ None
  gone_olds n e past = elim (listed.left_olds n) [
    | inl same ↦ same ∙ find_other n k old es (not_tied n k Greater e (λ f. let g : ⊥ = cc in g)) ∙ none_after n es past
    | inr before ↦ absurd (not_past n Greater e (λ f. let g : ⊥ = cc in g) before)
  ]

  gone_news : (n : Name) → name_cmp n k ≡ Greater → T (below_all n fs) → find name_cmp n news ≡ None
  gone_news n e past = elim (listed.left_news n) [
    | inl same ↦ same ∙ find_other n k new fs (not_tied n k Greater e (λ f. let g : ⊥ = cc in g)) ∙ none_after n fs past
    | inr before ↦ absurd (not_past n Greater e (λ f. let g : ⊥ = cc in g) before)
  ]

  back : (t : Turn) (n : Name) (p : Path) → IsPast n es fs → IsTop t n p → Contains (changes ++ added) (change t (n ∷ p))
  back t n p past top = go (name_cmp n k) refl
    where
      go : (r : Ordering) → name_cmp n k ≡ r → Contains (changes ++ added) (change t (n ∷ p))
      go Less e = Contains-append_left changes added (change t (n ∷ p))
          ((listed.each t n p).1 ((past_front n k old es e past.0, past_front n k new fs e past.1), top))
      go Equal e =
          let same : n ≡ k = name_one n k e in
          let here : IsTopmost (state old) (state new) (change t p) = from_here t p (subst (λ (x : Name). IsTop t x p) same top) in
          Contains-append_right changes added (change t (n ∷ p))
          (subst (λ (x : Name). Contains added (change t (x ∷ p))) (sym same)
          (contains_map (from (k ∷ [])) more (change t p) ((are.each (change t p)).1 here)))
      go Greater e = absurd (nothing_there t p (find name_cmp n olds) (find name_cmp n news) (gone_olds n e past.0) (gone_news n e past.1) top)

  left_of : (n : Name) (all left : Option Tree) (o : Option Tree) (gs : Edges) → find name_cmp n (in_front k o gs) ≡ left → left ≡ all → (all ≡ find name_cmp n gs) ⊎ IsPast n es fs
  left_of n all left o gs is same = go (name_cmp n k) refl
    where
      go : (r : Ordering) → name_cmp n k ≡ r → (all ≡ find name_cmp n gs) ⊎ IsPast n es fs
      go Less e = inl (sym same ∙ sym is ∙ find_other n k o gs (not_tied n k Less e (λ f. let g : ⊥ = cc in g)))
      go Equal e = inr (subst (λ (x : Name). IsPast x es fs) (sym (name_one n k e)) (before_es, before_fs))
      go Greater e = inl (sym same ∙ sym is ∙ find_other n k o gs (not_tied n k Greater e (λ f. let g : ⊥ = cc in g)))

  -- paths that are listed stand before those below the name
  in_order : (p q : Path) → Contains (map (λ c. c.path) changes) p → Contains (map (λ c. c.path) added) q → path_cmp p q ≡ Less
  in_order p q c d =
      let one = map_contains (λ (x : Change). x.path) changes p c in
      let two = map_contains (λ (x : Change). x.path) added q d in
      let under = map_contains (from (k ∷ [])) more two.0 two.2 in
      let behind : q ≡ k ∷ under.0.path = two.1 ∙ ap (λ (x : Change). x.path) under.1 in
      subst (λ (x : Path). path_cmp p x ≡ Less) (sym behind)
      (subst (λ (x : Path). path_cmp x (k ∷ under.0.path) ≡ Less) (sym one.1) (go one.0.path under.0.path (subst (Contains changes) refl one.2)))
    where
      go : {t : Turn} (p q : Path) → Contains changes (change t p) → path_cmp p (k ∷ q) ≡ Less
      go {t} [] q c = absurd (listed.root t c)
      go {t} (n ∷ p) q c = ap (λ r. ordering_then r (path_cmp p q)) (before_it n ((listed.each t n p).0 c).0)

  paths_below : (xs : List Change) → map (λ (c : Change). c.path) (map (from (k ∷ [])) xs) ≡ map (λ (p : Path). k ∷ p) (map (λ (c : Change). c.path) xs)
  paths_below [] = refl
  paths_below (x ∷ xs) = ap (λ (l : List Path). (k ∷ x.path) ∷ l) (paths_below xs)

  ascending_below : IsStrictlySortedBy path_cmp (map (λ (c : Change). c.path) added)
  ascending_below = subst (IsStrictlySortedBy path_cmp) (sym (paths_below more))
      (ascending_map (λ (p : Path). k ∷ p) path_cmp path_cmp (λ p q less. same_front (k ∷ []) p q ∙ less) (map (λ (c : Change). c.path) more) are.ascending)

  one_more : AreListed olds news es fs (changes ++ added)
  one_more = record {
    rise_olds = rest_rises k old es listed.rise_olds;
    rise_news = rest_rises k new fs listed.rise_news;
    ascending = subst (IsStrictlySortedBy path_cmp) (sym (map_append (λ (c : Change). c.path) changes added))
        (ascending_append path_cmp (map (λ (c : Change). c.path) changes) (map (λ (c : Change). c.path) added) listed.ascending ascending_below in_order);
    root = λ t c. elim (Contains-append_cases changes added (change t []) c) [
      | inl c ↦ listed.root t c
      | inr c ↦
          let m = map_contains (from (k ∷ [])) more (change t []) c in
          let bad : [] ≡ k ∷ m.0.path = ap (λ (x : Change). x.path) m.1 in
          let f : ⊥ = cc in f
    ];
    each = λ t n p. (forth t n p, λ h. back t n p h.0 h.1);
    left_olds = λ n. elim (listed.left_olds n) [
      | inl e ↦ left_of n (find name_cmp n olds) (find name_cmp n (in_front k old es)) old es refl (sym e)
      | inr past ↦ inr (later_past n past)
    ];
    left_news = λ n. elim (listed.left_news n) [
      | inl e ↦ left_of n (find name_cmp n news) (find name_cmp n (in_front k new fs)) new fs refl (sym e)
      | inr past ↦ inr (later_past n past)
    ];
  }

pub listed_more : (olds news es fs : Edges) (k : Name) (old new : Option Tree) (es_left fs_left : Edges) (changes more : List Change)
    → AreListed olds news es fs changes → IsTaken es fs k old new es_left fs_left → AreChanges (state old) (state new) more
    → AreListed olds news es_left fs_left (changes ++ map (from (k ∷ [])) more)
listed_more olds news es fs k old new es_left fs_left changes more listed taken are =
    one_more olds news k old new es_left fs_left changes more
    (subst (λ (x : Edges). AreListed olds news (in_front k old es_left) x changes) taken.are_news
    (subst (λ (x : Edges). AreListed olds news x fs changes) taken.are_olds listed))
    taken.there taken.before_olds taken.before_news are

-- what is taken under a name is what stood there
pub taken_here : (olds news es fs : Edges) (k : Name) (old new : Option Tree) (es_left fs_left : Edges) (changes : List Change)
    → AreListed olds news es fs changes → IsTaken es fs k old new es_left fs_left → find name_cmp k olds ≡ old
taken_here olds news es fs k old new es_left fs_left changes listed taken =
    old_here olds news k old new es_left fs_left changes
    (subst (λ (x : Edges). AreListed olds news (in_front k old es_left) x changes) taken.are_news
    (subst (λ (x : Edges). AreListed olds news x fs changes) taken.are_olds listed))
    taken.there taken.before_olds

-- ---- at the end

module _ (t u : Tree) where
  abbrev olds_of : View
  olds_of = state (Some t)

  abbrev news_of : View
  news_of = state (Some u)

  root_same : news_of [] ≡ olds_of []
  root_same = at_root u ∙ sym (at_root t)

  down : (s : Turn) (k : Name) (p : Path) → IsTopmost olds_of news_of (change s (k ∷ p)) → IsTopmost (state (below k t)) (state (below k u)) (change s p)
  down s k p top = subst (λ (v : View). IsTopmost v (state (below k u)) (change s p)) (below_name t k)
      (subst (λ (v : View). IsTopmost (λ q. olds_of (k ∷ q)) v (change s p)) (below_name u k) (top_down olds_of news_of s k p top))

  up : (s : Turn) (k : Name) (p : Path) → IsTopmost (state (below k t)) (state (below k u)) (change s p) → IsTopmost olds_of news_of (change s (k ∷ p))
  up s k p top = top_up olds_of news_of s k p root_same
      (subst (λ (v : View). IsTopmost v (λ q. news_of (k ∷ q)) (change s p)) (sym (below_name t k))
      (subst (λ (v : View). IsTopmost (state (below k t)) v (change s p)) (sym (below_name u k)) top))

  pub all_listed : (changes : List Change) → AreListed (edges t) (edges u) [] [] changes → AreChanges olds_of news_of changes
  all_listed changes listed = record { ascending = listed.ascending; each = λ c. (forth_all c.turn c.path, back_all c.turn c.path) }
    where
      forth_all : (s : Turn) (p : Path) → Contains changes (change s p) → IsTopmost olds_of news_of (change s p)
      forth_all s [] c = absurd (listed.root s c)
      forth_all s (k ∷ p) c = up s k p ((listed.each s k p).0 c).1

      back_all : (s : Turn) (p : Path) → IsTopmost olds_of news_of (change s p) → Contains changes (change s p)
      back_all s [] top = absurd (turned_apart s olds_of news_of [] top.turned root_same)
      back_all s (k ∷ p) top = (listed.each s k p).1 ((tt, tt), down s k p top)
