-- Names that are put into groups one after another.
use Rattle.std.proofs.Common.{◌≡◌, ◌≢◌, ◌⊎◌, ℕ, zero, suc, ◌<◌, Bool, true, false, List, [], ◌∷◌, ◌++◌, All, Contains, filter, map, length, get_or, set, bytes_eq, refl, sym, ap, subst, ◌∙◌, arith, inl, inr, append-nil, Less}
use Rattle.std.specs.Cmp.Lexicographic.{nat_list_eq_equiv, bytes_decides}
use Rattle.std.specs.List.{IsDistinct, list_any}
use Rattle.std.specs.List.Sorted.{IsStrictlySortedBy}
use Rattle.std.proofs.lemmas.Bool.{cond-true, cond-false}
use Rattle.std.proofs.lemmas.List.{map-append, get_or-map}
use Rattle.std.proofs.lemmas.List.Elements.{filter-append, All-nil, All-cons, All-filter, All-head, All-tail, All-push, All-weaker, All-contains, All-contains_itself, Contains-get_or, Contains-push, Contains-push_cases, Contains-append_left, All-from_recursion}
use Rattle.std.proofs.lemmas.Map.Keys.{IsDistinct-head, IsDistinct-tail, IsDistinct-push}
use Rattle.hm_tree.specs.Names.{Name, name_cmp}
use Rattle.hm_alike.specs.Alike.{folded, folded_to, first_name}
use Rattle.hm_alike.specs.Groups.{AreGroups, with_name}
use Rattle.hm_alike.proofs.NonePasses.{none_passes}
use Rattle.hm_alike.proofs.Rising.{sorted-none, sorted-push, sorted-last, some-push, some-append, first_name-append, first_name-has}

-- ---- equal texts

same : (a b : Name) → a ≡ b → bytes_eq a b ≡ true
same a b e = (bytes_decides a b).1 e

back : (a b : Name) → bytes_eq a b ≡ false → bytes_eq b a ≡ false
back a b e = nat_list_eq_equiv.symm b a ∙ e

none_kept : (p : Name → Bool) (xs : List Name) → All (λ x. p x ≡ false) xs → filter p xs ≡ []
none_kept p [] all = refl
none_kept p (x ∷ xs) all =
    cond-false (p x) _ _ (All-head (λ x. p x ≡ false) x xs all) ∙ none_kept p xs (All-tail (λ x. p x ≡ false) x xs all)

-- ---- one name more

module _ (names : List Name) (n : Name) where
  pub more_same : (t : Name) → t ≡ folded n → folded_to (names ++ n ∷ []) t ≡ folded_to names t ++ n ∷ []
  more_same t e =
      filter-append (λ m. bytes_eq (folded m) t) names (n ∷ [])
      ∙ ap (λ l. folded_to names t ++ l) (cond-true (bytes_eq (folded n) t) _ _ (same (folded n) t (sym e)))

  pub more_other : (t : Name) → bytes_eq (folded n) t ≡ false → folded_to (names ++ n ∷ []) t ≡ folded_to names t
  more_other t e =
      filter-append (λ m. bytes_eq (folded m) t) names (n ∷ [])
      ∙ ap (λ l. folded_to names t ++ l) (cond-false (bytes_eq (folded n) t) _ _ e) ∙ append-nil (folded_to names t)

  more_begins : (t : Name) → (more : List Name) × (folded_to (names ++ n ∷ []) t ≡ folded_to names t ++ more)
  more_begins t = (filter (λ m. bytes_eq (folded m) t) (n ∷ []), filter-append (λ m. bytes_eq (folded m) t) names (n ∷ []))

  still_some : (t : Name) → folded_to names t ≢ [] → folded_to (names ++ n ∷ []) t ≢ []
  still_some t some e = let b = more_begins t in some-append (folded_to names t) b.0 some (sym b.1 ∙ e)

  others : (ts : List Name) → All (λ t. bytes_eq (folded n) t ≡ false) ts → map (folded_to names) ts ≡ map (folded_to (names ++ n ∷ [])) ts
  others [] all = refl
  others (t ∷ ts) all =
      let one = more_other t (All-head (λ t. bytes_eq (folded n) t ≡ false) t ts all) in
      let rest = others ts (All-tail (λ t. bytes_eq (folded n) t ≡ false) t ts all) in
      (λ i. sym one i ∷ rest i)

  put_more : (ts : List Name) (p : ℕ) → p < length ts → get_or ts p [] ≡ folded n → IsDistinct bytes_eq ts
      → set (map (folded_to names) ts) p (folded_to names (folded n) ++ n ∷ []) ≡ map (folded_to (names ++ n ∷ [])) ts
  put_more [] p lt e d = absurd (omega arith)
  put_more (t ∷ ts) zero lt e d =
      let all = All-from_recursion (λ y. bytes_eq t y ≡ false) ts (IsDistinct-head bytes_eq t ts d) in
      let one = ap (λ u. folded_to names u ++ n ∷ []) (sym e) ∙ sym (more_same t e) in
      let rest = others ts (subst (λ u. All (λ y. bytes_eq u y ≡ false) ts) e all) in
      (λ i. one i ∷ rest i)
  put_more (t ∷ ts) (suc p) lt e d =
      let all = All-from_recursion (λ y. bytes_eq t y ≡ false) ts (IsDistinct-head bytes_eq t ts d) in
      let there : Contains ts (folded n) = subst (Contains ts) e (Contains-get_or ts p [] (omega arith)) in
      let apart = All-contains (λ y. bytes_eq t y ≡ false) ts (folded n) all there in
      let one = sym (more_other t (back t (folded n) apart)) in
      let rest = put_more ts p (omega arith) e (IsDistinct-tail bytes_eq t ts d) in
      (λ i. one i ∷ rest i)

  firsts : (ts : List Name) → All (λ t. folded_to names t ≢ []) ts
      → map first_name (map (folded_to names) ts) ≡ map first_name (map (folded_to (names ++ n ∷ [])) ts)
  firsts [] all = refl
  firsts (t ∷ ts) all =
      let b = more_begins t in
      let one = sym (ap first_name b.1 ∙ first_name-append (folded_to names t) b.0 (All-head (λ t. folded_to names t ≢ []) t ts all)) in
      let rest = firsts ts (All-tail (λ t. folded_to names t ≢ []) t ts all) in
      (λ i. one i ∷ rest i)

  firsts_less : (ts : List Name) → All (λ t. folded_to names t ≢ []) ts → All (λ m. name_cmp m n ≡ Less) names
      → All (λ m. name_cmp m n ≡ Less) (map first_name (map (folded_to names) ts))
  firsts_less [] all less = All-nil (λ m. name_cmp m n ≡ Less)
  firsts_less (t ∷ ts) all less =
      All-cons (λ m. name_cmp m n ≡ Less) (first_name (folded_to names t)) (map first_name (map (folded_to names) ts))
      (first_name-has (λ m. name_cmp m n ≡ Less) (folded_to names t) (All-head (λ t. folded_to names t ≢ []) t ts all)
      (All-filter (λ m. bytes_eq (folded m) t) (λ m. name_cmp m n ≡ Less) names less))
      (firsts_less ts (All-tail (λ t. folded_to names t ≢ []) t ts all) less)

  -- ---- the groups with a name more

  -- its folded name is known
  pub grouped_there : (texts : List Name) (groups : List (List Name)) (p : ℕ) → AreGroups names texts groups
      → p < length texts → get_or texts p [] ≡ folded n → AreGroups (names ++ n ∷ []) texts (with_name groups p n)
  grouped_there texts groups p g lt at = record {
    each = each;
    known = λ q h. known q (Contains-push_cases names n q h);
    apart = g.apart;
    some = All-weaker (λ t. folded_to names t ≢ []) (λ t. folded_to (names ++ n ∷ []) t ≢ []) still_some texts g.some;
    ascending = subst (IsStrictlySortedBy name_cmp) (ap (map first_name) g.each ∙ firsts texts g.some ∙ ap (map first_name) (sym each)) g.ascending;
  }
    where
      each : with_name groups p n ≡ map (folded_to (names ++ n ∷ [])) texts
      each =
          ap (λ gs. with_name gs p n) g.each
          ∙ ap (λ l. set (map (folded_to names) texts) p (l ++ n ∷ [])) (get_or-map (folded_to names) texts p [] [] lt ∙ ap (folded_to names) at)
          ∙ put_more texts p lt at g.apart

      known : (q : Name) → Contains names q ⊎ (n ≡ q) → Contains texts (folded q)
      known q (inl h) = g.known q h
      known q (inr e) = subst (Contains texts) (at ∙ ap folded e) (Contains-get_or texts p [] lt)

  -- it is new
  pub grouped_new : (texts : List Name) (groups : List (List Name)) → AreGroups names texts groups → list_any (bytes_eq (folded n)) texts ≡ false
      → IsStrictlySortedBy name_cmp (names ++ n ∷ []) → AreGroups (names ++ n ∷ []) (texts ++ folded n ∷ []) (groups ++ (n ∷ []) ∷ [])
  grouped_new texts groups g new rise = record {
    each = each;
    known = λ q h. known q (Contains-push_cases names n q h);
    apart = IsDistinct-push nat_list_eq_equiv texts (folded n) g.apart new;
    some = All-push (λ t. folded_to (names ++ n ∷ []) t ≢ []) texts (folded n)
        (All-weaker (λ t. folded_to names t ≢ []) (λ t. folded_to (names ++ n ∷ []) t ≢ []) still_some texts g.some)
        (λ e. some-push [] n (sym alone ∙ e));
    ascending = subst (IsStrictlySortedBy name_cmp) (sym (map-append first_name groups ((n ∷ []) ∷ [])))
        (sorted-push name_cmp (map first_name groups) n g.ascending
        (subst (λ gs. All (λ m. name_cmp m n ≡ Less) (map first_name gs)) (sym g.each) (firsts_less texts g.some (sorted-last name_cmp names n rise))));
  }
    where
      others_fold : All (λ m. bytes_eq (folded m) (folded n) ≡ false) names
      others_fold = All-weaker (Contains names) (λ m. bytes_eq (folded m) (folded n) ≡ false) other names (All-contains_itself names)
        where
          other : (m : Name) → Contains names m → bytes_eq (folded m) (folded n) ≡ false
          other m h = back (folded n) (folded m) (All-contains (λ t. bytes_eq (folded n) t ≡ false) texts (folded m) (none_passes (bytes_eq (folded n)) texts new) (g.known m h))

      alone : folded_to (names ++ n ∷ []) (folded n) ≡ n ∷ []
      alone = more_same (folded n) refl ∙ ap (λ l. l ++ n ∷ []) (none_kept (λ m. bytes_eq (folded m) (folded n)) names others_fold)

      each : groups ++ (n ∷ []) ∷ [] ≡ map (folded_to (names ++ n ∷ [])) (texts ++ folded n ∷ [])
      each =
          (λ i. (g.each ∙ others texts (none_passes (bytes_eq (folded n)) texts new)) i ++ sym alone i ∷ [])
          ∙ sym (map-append (folded_to (names ++ n ∷ [])) texts (folded n ∷ []))

      known : (q : Name) → Contains names q ⊎ (n ≡ q) → Contains (texts ++ folded n ∷ []) (folded q)
      known q (inl h) = Contains-append_left texts (folded n ∷ []) (folded q) (g.known q h)
      known q (inr e) = subst (λ m. Contains (texts ++ folded n ∷ []) (folded m)) e (Contains-push texts (folded n))

none_apart : IsDistinct bytes_eq []
unfolding IsDistinct
none_apart = tt

-- no names yet
pub grouped_none : AreGroups [] [] []
grouped_none = record {
  each = refl;
  known = λ n h. absurd (omega (arith, h.1));
  apart = none_apart;
  some = All-nil (λ t. folded_to [] t ≢ []);
  ascending = sorted-none name_cmp;
}
