-- The names of two lists of edges, taken one after the other.
use Rattle.std.proofs.Common.{◌≡◌, ◌≢◌, ◌⊎◌, T, List, [], ◌∷◌, ◌++◌, Option, Some, None, refl, sym, subst, inl, inr}
use Rattle.std.specs.FinMap.{is_sorted}
use Rattle.std.specs.List.{Contains}
use Rattle.std.specs.List.Sorted.{IsStrictlySortedBy}
use Rattle.std.specs.Ordering.{is_lt}
use Rattle.std.specs.declared.cmp.Ordering.TheVariants.{Less}
use Rattle.std.proofs.lemmas.List.Elements.{Contains-append_left, Contains-push, Contains-push_cases}
use Rattle.hm_tree.specs.Names.{Name, name_cmp}
use Rattle.hm_tree.specs.Nodes.{Tree, below_all, first, second}
use Rattle.hm_tree.proofs.Sorted.{is_less}
use Rattle.hm_changes.specs.Taken.{Edges, in_front, IsTaken, AreOver}
use Rattle.hm_changes.proofs.Lists.{contains_nothing, contains_here, contains_later, first_or_later, ascending_append}
use Rattle.hm_changes_alike.specs.Shown.{names_of, AreUnited}

-- the names of two lists of edges that aren't among those that are left
pub record AreUniting (ones others es fs : Edges) (names : List Name) : Type 0 where
  pub rise_ones : T (is_sorted name_cmp es)
  pub rise_others : T (is_sorted name_cmp fs)
  pub rise : IsStrictlySortedBy name_cmp names
  pub before_ones : (k : Name) → Contains names k → T (below_all k es)
  pub before_others : (k : Name) → Contains names k → T (below_all k fs)
  pub each_one : (k : Name) → Contains (names_of ones) k ⊎ Contains (names_of others) k → Contains names k ⊎ (Contains (names_of es) k ⊎ Contains (names_of fs) k)
  pub none_else : (k : Name) → Contains names k ⊎ (Contains (names_of es) k ⊎ Contains (names_of fs) k) → Contains (names_of ones) k ⊎ Contains (names_of others) k

pub none_united : (es fs : Edges) (names : List Name) → names ≡ [] → T (is_sorted name_cmp es) → T (is_sorted name_cmp fs) → AreUniting es fs es fs names
unfolding IsStrictlySortedBy
none_united es fs names none rise_es rise_fs = subst (AreUniting es fs es fs) (sym none) start
  where
    start : AreUniting es fs es fs []
    start = record {
      rise_ones = rise_es;
      rise_others = rise_fs;
      rise = tt;
      before_ones = λ k c. absurd (contains_nothing k c);
      before_others = λ k c. absurd (contains_nothing k c);
      each_one = λ k there. inr there;
      none_else = λ k there. elim there [ inl c ↦ absurd (contains_nothing k c) | inr there ↦ there ];
    }

pub all_united : (ones others es fs : Edges) (names : List Name) → AreOver es fs → AreUniting ones others es fs names → AreUnited ones others names
all_united ones others es fs names over so_far = record {
  rise = so_far.rise;
  each = λ k. (
    (λ c. so_far.none_else k (inl c)),
    (λ there. elim (so_far.each_one k there) [
      | inl c ↦ c
      | inr left ↦ elim left [
        | inl c ↦ absurd (contains_nothing k (subst (λ (x : Edges). Contains (names_of x) k) over.no_olds c))
        | inr c ↦ absurd (contains_nothing k (subst (λ (x : Edges). Contains (names_of x) k) over.no_news c))
      ]
    ]),
  );
}

-- ---- one name more

rest_rises : (k : Name) (o : Option Tree) (es : Edges) → T (is_sorted name_cmp (in_front k o es)) → T (is_sorted name_cmp es)
rest_rises k None es h = h
rest_rises k (Some t) es h = second _ _ h

rest_below : (n k : Name) (o : Option Tree) (es : Edges) → T (below_all n (in_front k o es)) → T (below_all n es)
rest_below n k None es h = h
rest_below n k (Some t) es h = second (is_lt (name_cmp n k)) _ h

less_than_front : (n k : Name) (o : Option Tree) (es : Edges) → o ≢ None → T (below_all n (in_front k o es)) → name_cmp n k ≡ Less
less_than_front n k None es there h = absurd (there refl)
less_than_front n k (Some t) es there h = is_less _ (first _ _ h)

front_cases : (n k : Name) (o : Option Tree) (es : Edges) → Contains (names_of (in_front k o es)) n → (k ≡ n) ⊎ Contains (names_of es) n
front_cases n k None es c = inr c
front_cases n k (Some t) es c = first_or_later k (names_of es) n c

front_has : (k : Name) (o : Option Tree) (es : Edges) → o ≢ None → Contains (names_of (in_front k o es)) k
front_has k None es there = absurd (there refl)
front_has k (Some t) es there = contains_here k (names_of es)

rest_has : (n k : Name) (o : Option Tree) (es : Edges) → Contains (names_of es) n → Contains (names_of (in_front k o es)) n
rest_has n k None es c = c
rest_has n k (Some t) es c = contains_later k (names_of es) n c

module _ (ones others : Edges) (k : Name) (one other : Option Tree) (es fs : Edges) (names : List Name)
    (so_far : AreUniting ones others (in_front k one es) (in_front k other fs) names) (there : (one ≢ None) ⊎ (other ≢ None))
    (before_es : T (below_all k es)) (before_fs : T (below_all k fs)) where
  less : (n : Name) → Contains names n → name_cmp n k ≡ Less
  less n c = elim there [
    | inl o ↦ less_than_front n k one es o (so_far.before_ones n c)
    | inr o ↦ less_than_front n k other fs o (so_far.before_others n c)
  ]

  alone : IsStrictlySortedBy name_cmp (k ∷ [])
  unfolding IsStrictlySortedBy
  alone = (tt, tt)

  is_front : (n : Name) → Contains (k ∷ []) n → k ≡ n
  is_front n c = elim (first_or_later k [] n c) [ inl e ↦ e | inr c ↦ absurd (contains_nothing n c) ]

  before : (rest : Edges) (o : Option Tree) → T (below_all k rest) → ((n : Name) → Contains names n → T (below_all n (in_front k o rest)))
      → (n : Name) → Contains (names ++ k ∷ []) n → T (below_all n rest)
  before rest o here earlier n c = elim (Contains-push_cases names k n c) [
    | inl c ↦ rest_below n k o rest (earlier n c)
    | inr e ↦ subst (λ (x : Name). T (below_all x rest)) e here
  ]

  taken : (n : Name) → k ≡ n → Contains (names ++ k ∷ []) n
  taken n e = subst (Contains (names ++ k ∷ [])) e (Contains-push names k)

  each_more : (n : Name) → Contains (names_of ones) n ⊎ Contains (names_of others) n → Contains (names ++ k ∷ []) n ⊎ (Contains (names_of es) n ⊎ Contains (names_of fs) n)
  each_more n has = elim (so_far.each_one n has) [
    | inl c ↦ inl (Contains-append_left names (k ∷ []) n c)
    | inr left ↦ elim left [
      | inl c ↦ elim (front_cases n k one es c) [ inl e ↦ inl (taken n e) | inr c ↦ inr (inl c) ]
      | inr c ↦ elim (front_cases n k other fs c) [ inl e ↦ inl (taken n e) | inr c ↦ inr (inr c) ]
    ]
  ]

  front_is : (n : Name) → k ≡ n → Contains (names_of (in_front k one es)) n ⊎ Contains (names_of (in_front k other fs)) n
  front_is n e = elim there [
    | inl o ↦ inl (subst (Contains (names_of (in_front k one es))) e (front_has k one es o))
    | inr o ↦ inr (subst (Contains (names_of (in_front k other fs))) e (front_has k other fs o))
  ]

  none_more : (n : Name) → Contains (names ++ k ∷ []) n ⊎ (Contains (names_of es) n ⊎ Contains (names_of fs) n) → Contains (names_of ones) n ⊎ Contains (names_of others) n
  none_more n has = so_far.none_else n (elim has [
    | inl c ↦ elim (Contains-push_cases names k n c) [ inl c ↦ inl c | inr e ↦ inr (front_is n e) ]
    | inr left ↦ elim left [
      | inl c ↦ inr (inl (rest_has n k one es c))
      | inr c ↦ inr (inr (rest_has n k other fs c))
    ]
  ])

  united_one : AreUniting ones others es fs (names ++ k ∷ [])
  united_one = record {
    rise_ones = rest_rises k one es so_far.rise_ones;
    rise_others = rest_rises k other fs so_far.rise_others;
    rise = ascending_append name_cmp names (k ∷ []) so_far.rise alone (λ n m c d. subst (λ (x : Name). name_cmp n x ≡ Less) (is_front m d) (less n c));
    before_ones = before es one before_es so_far.before_ones;
    before_others = before fs other before_fs so_far.before_others;
    each_one = each_more;
    none_else = none_more;
  }

-- with the name that was taken, and the edges that are left then
pub united_more : (ones others es fs : Edges) (k : Name) (one other : Option Tree) (es_left fs_left : Edges) (names more : List Name)
    → AreUniting ones others es fs names → IsTaken es fs k one other es_left fs_left → more ≡ names ++ k ∷ [] → AreUniting ones others es_left fs_left more
united_more ones others es fs k one other es_left fs_left names more so_far t is =
    subst (AreUniting ones others es_left fs_left) (sym is)
    (united_one ones others k one other es_left fs_left names
    (subst (λ (x : Edges). AreUniting ones others x (in_front k other fs_left) names) t.are_olds
    (subst (λ (x : Edges). AreUniting ones others es x names) t.are_news so_far)) t.there t.before_olds t.before_news)
