-- The sets of alike names below a path are the classes of the names that are shown there of which one comes or goes.
use Rattle.std.proofs.Common.{◌≡◌, ◌↔◌, ◌≤◌, Bool, true, IsTrue, List, map, length, bytes_eq, refl, sym, ap, subst, ◌∙◌}
use Rattle.std.specs.Cmp.Lexicographic.{bytes_decides}
use Rattle.std.specs.FinSet as set
use Rattle.std.specs.List.{Contains, list_any, filter}
use Rattle.std.specs.List.Sorted.{IsStrictlySortedBy}
use Rattle.std.specs.Ordering.{ordering_then}
use Rattle.std.specs.declared.cmp.Ordering.{Ordering}
use Rattle.std.specs.declared.cmp.Ordering.TheVariants.{Less}
use Rattle.std.proofs.lemmas.Cmp.{eq_by_cmp_equiv, tied_itself}
use Rattle.std.proofs.lemmas.List.Folds.{Any-from_list_any, list_any-from_Any}
use Rattle.std.proofs.lemmas.List.Kept.{IsStrictlySortedBy-filter}
use Rattle.std.proofs.lemmas.Map.Views.{list_any-from_Contains}
use Rattle.hm_tree.specs.Names.{Name, name_cmp}
use Rattle.hm_tree.specs.Sets.{ascending}
use Rattle.hm_tree.specs.States.{Path}
use Rattle.hm_tree.proofs.Ascending.{ascending_is}
use Rattle.hm_tree.proofs.NameSets.{at_any, same_bool}
use Rattle.hm_tree.proofs.PathLaws.{path_total}
use Rattle.hm_tree.proofs.Sorted.{name_total, name_one}
use Rattle.hm_alike.specs.Alike.{folded, alike_to, IsClass, AreClasses, first_name}
use Rattle.hm_changes.proofs.Lists.{contains_map, map_contains}
use Rattle.hm_changes_alike.specs.declared.alikes.AlikeNames.{AlikeNames}
use Rattle.hm_changes_alike.specs.Alikes.{Renewal, IsShown, IsTold, AreAlike, set_cmp}
use Rattle.hm_changes_alike.specs.Below.{set_below, AreAlikesBelow}
use Rattle.hm_changes_alike.proofs.Kept.{in_filter, filter_in, rises_mapped}

-- ---- the set of a list

in_set : (names : List Name) (k : Name) → Contains names k → IsTrue (set.contains (set.from_list {R = name_cmp} names) k)
in_set names k c = set.contains-from_list name_total names k ∙ list_any-from_Contains (eq_by_cmp_equiv name_total) k names c

set_in : (names : List Name) (k : Name) → IsTrue (set.contains (set.from_list {R = name_cmp} names) k) → Contains names k
set_in names k h = at_any k names (sym (set.contains-from_list name_total names k) ∙ h)

module _ (names : List Name) (rise : IsStrictlySortedBy name_cmp names) where
  -- ---- names that are alike

  alike_in : (j k : Name) → Contains names k → folded k ≡ folded j → Contains (alike_to names j) k
  alike_in j k c e = filter_in (λ n. bytes_eq (folded n) (folded j)) names k c ((bytes_decides (folded k) (folded j)).1 e)

  in_alike : (j k : Name) → Contains (alike_to names j) k → Contains names k × (folded k ≡ folded j)
  in_alike j k c =
      let m = in_filter (λ n. bytes_eq (folded n) (folded j)) names k c in
      (m.0, (bytes_decides (folded k) (folded j)).0 m.1)

  alike_rise : (j : Name) → IsStrictlySortedBy name_cmp (alike_to names j)
  alike_rise j = IsStrictlySortedBy-filter name_cmp (λ n. bytes_eq (folded n) (folded j)) names rise

  class_rises : (c : List Name) → IsClass names c → IsStrictlySortedBy name_cmp c
  class_rises c is = subst (IsStrictlySortedBy name_cmp) (sym is.2) (alike_rise is.0)

  class_names : (c : List Name) → IsClass names c → ascending (set.from_list {R = name_cmp} c) ≡ c
  class_names c is = ascending_is c (set.from_list {R = name_cmp} c) (class_rises c is) refl

  module _ (a b : Renewal) (p : Path) (shown : (k : Name) → Contains names k ↔ IsShown a b p k) (told : Name → Bool)
      (tells : (k : Name) → (told k ≡ true) ↔ IsTold a b p k) where
    -- ---- a class of which one name comes or goes

    alike : (c : List Name) → IsClass names c → list_any told c ≡ true → AreAlike a b (set_below p c)
    alike c is one = record {
      folded_name = folded is.0;
      each = λ k. (
        (λ h. let m = in_alike is.0 k (subst (λ (l : List Name). Contains l k) is.2 (set_in c k h)) in ((shown k).0 m.0, m.1)),
        (λ h. in_set c k (subst (λ (l : List Name). Contains l k) (sym is.2) (alike_in is.0 k ((shown k).1 h.0) h.1))),
      );
      two = subst (λ (l : List Name). 2 ≤ length l) (sym (class_names c is)) is.3;
      told = let m = Any-from_list_any told c one in (m.1, in_set c m.1 (m.0, m.2, m.3), (tells m.1).0 m.4);
    }

    -- ---- and the other way round

    module _ (s : set.FinSet name_cmp) (are : AreAlike a b (record { parent = p; names = s })) where
      abbrev c : List Name
      c = alike_to names are.told.0

      one_is : IsShown a b p are.told.0 × (folded are.told.0 ≡ are.folded_name)
      one_is = (are.each are.told.0).0 are.told.1

      into : (k : Name) → IsTrue (set.contains s k) → IsTrue (set.contains (set.from_list {R = name_cmp} c) k)
      into k h = let m = (are.each k).0 h in in_set c k (alike_in are.told.0 k ((shown k).1 m.0) (m.1 ∙ sym one_is.1))

      out : (k : Name) → IsTrue (set.contains (set.from_list {R = name_cmp} c) k) → IsTrue (set.contains s k)
      out k h = let m = in_alike are.told.0 k (set_in c k h) in (are.each k).1 ((shown k).0 m.0, m.1 ∙ one_is.1)

      same : s ≡ set.from_list {R = name_cmp} c
      same = set.same_set name_total name_one s (set.from_list {R = name_cmp} c)
          (λ k. same_bool (set.contains s k) (set.contains (set.from_list {R = name_cmp} c) k) (into k) (out k))

      two : 2 ≤ length c
      two = subst (λ (l : List Name). 2 ≤ length l) (ap ascending same ∙ ascending_is c (set.from_list {R = name_cmp} c) (alike_rise are.told.0) refl) are.two

      class : IsClass names c
      class = (are.told.0, (shown are.told.0).1 one_is.0, refl, two)

      has_told : list_any told c ≡ true
      has_told =
          let there = set_in c are.told.0 (into are.told.0 are.told.1) in
          list_any-from_Any told c (there.0, are.told.0, there.1, there.2, (tells are.told.0).1 are.told.2)

    module _ (classes : List (List Name)) (all : AreClasses names classes) where
      abbrev sets : List AlikeNames
      sets = map (set_below p) (filter (list_any told) classes)

      forth : (s : AlikeNames) → Contains sets s → (s.parent ≡ p) × AreAlike a b s
      forth s there =
          let m = map_contains (set_below p) (filter (list_any told) classes) s there in
          let kept = in_filter (list_any told) classes m.0 m.2 in
          subst (λ (s : AlikeNames). (s.parent ≡ p) × AreAlike a b s) (sym m.1) (refl, alike m.0 ((all.each m.0).0 kept.0) kept.1)

      back : (s : AlikeNames) → (s.parent ≡ p) × AreAlike a b s → Contains sets s
      back s h =
          let are : AreAlike a b (record { parent = p; names = s.names }) = subst (λ (q : Path). AreAlike a b (record { parent = q; names = s.names })) h.0 h.1 in
          let is : set_below p (c s.names are) ≡ s = λ i. record { parent = sym h.0 i; names = sym (same s.names are) i } in
          subst (Contains sets) is
          (contains_map (set_below p) (filter (list_any told) classes) (c s.names are)
          (filter_in (list_any told) classes (c s.names are) ((all.each (c s.names are)).1 (class s.names are)) (has_told s.names are)))

      less : (x y : List Name) → Contains classes x → Contains classes y → name_cmp (first_name x) (first_name y) ≡ Less
          → set_cmp (set_below p x) (set_below p y) ≡ Less
      less x y cx cy h =
          ap (λ (o : Ordering). ordering_then o (name_cmp (first_name (ascending (set.from_list {R = name_cmp} x))) (first_name (ascending (set.from_list {R = name_cmp} y)))))
          (tied_itself path_total p)
          ∙ (λ i. name_cmp (first_name (class_names x ((all.each x).0 cx) i)) (first_name (class_names y ((all.each y).0 cy) i)))
          ∙ h

      pub sets_below : AreAlikesBelow a b p sets
      sets_below = record {
        rise = rises_mapped first_name name_cmp (set_below p) set_cmp (list_any told) classes less all.ascending;
        each = λ s. (forth s, back s);
      }
