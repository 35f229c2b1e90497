-- Sets of texts.
use Rattle.std.proofs.Common.{◌≡◌, ◌≤◌, Bool, true, false, not, cond, ◌&&◌, ◌||◌, T, List, [], ◌∷◌, ◌++◌, length, filter, slice_get, Option, Some, None, refl, sym, ap, ◌∙◌, subst, arith}
use Rattle.std.specs.Borrow.{Bor}
use Rattle.std.specs.FinMap.{is_sorted}
use Rattle.std.specs.FinMap.Entries.{below_all}
use Rattle.std.specs.FinSet.{FinSet, contains, from_list, same_set, contains-from_list}
use Rattle.std.specs.List.{list_any, cons_option}
use Rattle.std.specs.Option.{is_some, option_copied}
use Rattle.std.specs.Ordering.{is_lt, eq_by_cmp}
use Rattle.std.proofs.lemmas.Bool.{and_right}
use Rattle.std.proofs.lemmas.List.Folds.{list_any-append}
use Rattle.hm_tree.specs.Names.{Name, name_cmp}
use Rattle.hm_tree.specs.Nodes.{are_edges, edges_rise}
use Rattle.hm_tree.specs.Sets.{ascending}
use Rattle.hm_tree.proofs.Sorted.{name_total, name_one}
use Rattle.hm_tree.proofs.Ascending.{set_of-ascending}
use Rattle.hm_schema.proofs.NamesOf.{tie_one}
use Rattle.hm_tree.specs.Sets.{new_names}
use Rattle.hm_book_cards.specs.Cards.{Shown, no_texts}
use Rattle.hm_lines_cards.specs.Lines.{Line, texts_by}
use Rattle.hm_facts.proofs.Booleans.{either}

pub none_there : (k : Name) → contains no_texts k ≡ false
none_there k = contains-from_list name_total [] k

pub some_copied : {X : Type 0} (o : Option (Bor X)) → is_some (option_copied o) ≡ is_some o
some_copied None = refl
some_copied (Some x) = refl

-- all names but those of no set
pub filter_none : (set : FinSet name_cmp) → set ≡ no_texts → (names : List Name) → filter (λ k. not (contains set k)) names ≡ names
filter_none set is [] = refl
filter_none set is (k ∷ names) =
    (λ i. cond (not ((ap (λ (s : FinSet name_cmp). contains s k) is ∙ none_there k) i)) (k ∷ filter_none set is names i) (filter_none set is names i))

-- the texts of lines stand below the names of properties
below_same : (k : Name) (properties : Shown) (lines : List Line) → below_all name_cmp k properties ≡ below_all name_cmp k (texts_by properties lines)
below_same k [] lines = refl
below_same k (p ∷ properties) lines = ap (λ b. is_lt (name_cmp k p.0) && b) (below_same k properties lines)

sorted_same : (properties : Shown) (lines : List Line) → is_sorted name_cmp properties ≡ is_sorted name_cmp (texts_by properties lines)
sorted_same [] lines = refl
sorted_same (p ∷ properties) lines = λ i. below_same p.0 properties lines i && sorted_same properties lines i

pub texts_sorted : (properties : Shown) (lines : List Line) → T (are_edges properties) → T (is_sorted name_cmp (texts_by properties lines))
texts_sorted properties lines h = subst T (sorted_same properties lines) (edges_rise properties h)

-- a list of one name at the most
pub one_list : (names : List Name) → length names ≤ 1 → cons_option (slice_get names 0) [] ≡ names
one_list [] few = refl
one_list (k ∷ []) few = refl
one_list (k ∷ n ∷ names) few = absurd (omega (arith, few))

-- whether a name is among those of a list that pass a test
any_where : (test : Name → Bool) (names : List Name) (k : Name)
    → list_any (eq_by_cmp name_cmp k) (filter test names) ≡ (test k && list_any (eq_by_cmp name_cmp k) names)
any_where test [] k = sym (and_right (test k) false refl)
any_where test (n ∷ names) k = go (test n) (eq_by_cmp name_cmp k n) refl refl (any_where test names k)
  where
    go : (b t : Bool) → test n ≡ b → eq_by_cmp name_cmp k n ≡ t
        → list_any (eq_by_cmp name_cmp k) (filter test names) ≡ (test k && list_any (eq_by_cmp name_cmp k) names)
        → list_any (eq_by_cmp name_cmp k) (cond b (n ∷ filter test names) (filter test names)) ≡ (test k && (t || list_any (eq_by_cmp name_cmp k) names))
    go true true e t rest =
        ap (λ s. s || list_any (eq_by_cmp name_cmp k) (filter test names)) t ∙ sym (ap (λ s. s && true) (ap test (tie_one k n t) ∙ e))
    go true false e t rest = ap (λ s. s || list_any (eq_by_cmp name_cmp k) (filter test names)) t ∙ rest
    go false true e t rest =
        let none : test k ≡ false = ap test (tie_one k n t) ∙ e in
        rest ∙ ap (λ s. s && list_any (eq_by_cmp name_cmp k) names) none ∙ sym (ap (λ s. s && true) none)
    go false false e t rest = rest

-- the texts that stay, and those that are new, are the set
pub all_texts : (old : List Name) (set : FinSet name_cmp)
    → from_list {R = name_cmp} (filter (contains set) old ++ new_names (from_list {R = name_cmp} old) set) ≡ set
all_texts old set = same_set name_total name_one _ set each
  where
    in_old : (k : Name) → contains (from_list {R = name_cmp} old) k ≡ list_any (eq_by_cmp name_cmp k) old
    in_old k = contains-from_list name_total old k

    in_set : (k : Name) → list_any (eq_by_cmp name_cmp k) (ascending set) ≡ contains set k
    in_set k = sym (contains-from_list name_total (ascending set) k) ∙ ap (λ (s : FinSet name_cmp). contains s k) (set_of-ascending set)

    each : (k : Name) → contains (from_list {R = name_cmp} (filter (contains set) old ++ new_names (from_list {R = name_cmp} old) set)) k ≡ contains set k
    each k =
        contains-from_list name_total (filter (contains set) old ++ new_names (from_list {R = name_cmp} old) set) k
        ∙ list_any-append (eq_by_cmp name_cmp k) (filter (contains set) old) (new_names (from_list {R = name_cmp} old) set)
        ∙ (λ i. any_where (contains set) old k i || any_where (λ n. not (contains (from_list {R = name_cmp} old) n)) (ascending set) k i)
        ∙ (λ i. (contains set k && sym (in_old k) i) || (not (contains (from_list {R = name_cmp} old) k) && in_set k i))
        ∙ either (contains set k) (contains (from_list {R = name_cmp} old) k)
