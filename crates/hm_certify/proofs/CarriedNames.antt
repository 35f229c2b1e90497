-- Whether names are those that a side is to have.
use Rattle.std.proofs.Common.{◌≡◌, ◌≢◌, ◌⊎◌, ◌↔◌, Bool, true, false, not, IsTrue, List, [], ◌∷◌, Option, Some, None, refl, sym, ap, subst, ◌∙◌, inl, inr}
use mathlib.Core.Bool.{true≢false, false≢true, beq}
use Rattle.std.specs.Ordering.{eq_by_cmp}
use Rattle.std.specs.FinSet.{contains, from_list, contains-from_list}
use Rattle.std.specs.List.{list_any}
use Rattle.std.proofs.lemmas.Bool.{or_cases}
use Rattle.std.proofs.lemmas.List.Elements.{All-head, All-tail}
use Rattle.hm_tree.specs.declared.archive.State.TheVariants.{Missing, Present}
use Rattle.hm_tree.specs.Names.{Name, name_cmp}
use Rattle.hm_tree.specs.Nodes.{Tree, below}
use Rattle.hm_tree.specs.Archives.{Archive}
use Rattle.hm_tree.specs.States.{state, at_path, IsWithin}
use Rattle.hm_tree.proofs.Sorted.{name_total}
use Rattle.hm_tree.proofs.States.{state_root, state_down, state_unmarked}
use Rattle.hm_tree.proofs.Extent.{stands}
use Rattle.hm_schema.specs.Values.{Names}
use Rattle.hm_schema.proofs.NamesOf.{tie_one}
use Rattle.hm_outcome.specs.Trios.{Trio}
use Rattle.hm_outcome.specs.Carried.{IsCarried, on_both, clashing, kept, brought, AreCarried}
use Rattle.hm_outcome.proofs.Marks.{agree_same, agree_of, has_and_lacks}
use Rattle.hm_outcome.proofs.Search.{within_or_news}
use Rattle.hm_certify.specs.Carrying.{IsJudged, EachJudged, AllJudged}
use Rattle.hm_certify.proofs.Verdicts.{is_so, is_not, as_well}
use Rattle.hm_certify.proofs.Steps.{tree_step}
use Rattle.hm_certify.proofs.Along.{carried_along}
use Rattle.hm_certify.proofs.SafeTests.{has_some, lacks_none}

missing_or_there : (o : Archive) → (o ≡ None) ⊎ (state o [] ≢ Missing)
missing_or_there None = inl refl
missing_or_there (Some n) = inr (stands n)

module _ (o : Archive) (mine other : Option Tree) where
  abbrev Carried : Type 0
  Carried = IsCarried (state o) (state mine) (state other) []

  pub carried_both : (a b : Tree) → mine ≡ Some a → other ≡ Some b → IsTrue true ↔ Carried
  carried_both a b e f = is_so (on_both (has_some e) (has_some f))

  -- mine alone is there
  module _ (t : Tree) (e : mine ≡ Some t) (f : other ≡ None) where
    apart : IsWithin (Some t) o → Carried → ⊥
    apart within (on_both h g) = has_and_lacks g (lacks_none f)
    apart within (clashing l) = l.news.2 (within l.news.0 (ap (λ (x : Option Tree). state x l.news.0) (sym e) ∙ l.news.1))
    apart within (kept h l n c) =
        c (agree_of (within [] (state_root t) ∙ sym h) (λ m. (let no : Present ≡ _ = sym (within [] (state_root t)) ∙ m in (let f : ⊥ = cc in f))))
    apart within (brought l h n c) = has_and_lacks (has_some e) l

    found : (IsWithin (Some t) o → ⊥) → Carried
    found n = elim (missing_or_there o) [
      | inl none ↦ (let gone = ap (λ (x : Archive). state x []) none in
          kept (has_some e) (lacks_none f) (λ l. l.known gone) (λ a. has_and_lacks (has_some e) (sym (agree_same a) ∙ gone)))
      | inr known ↦ elim (within_or_news t o) [
        | inl within ↦ absurd (n within)
        | inr news ↦ clashing (record {
          has = has_some e;
          lacks = lacks_none f;
          known = known;
          news = (news.0, ap (λ (x : Option Tree). state x news.0) e ∙ news.1, news.2);
        })
      ]
    ]

    pub carried_mine : (b : Bool) → IsTrue b ↔ IsWithin (Some t) o → IsTrue (not b) ↔ Carried
    carried_mine true h = is_not (apart (h.0 refl))
    carried_mine false h = is_so (found (λ within. false≢true (h.1 within)))

  -- the other alone is there
  module _ (t : Tree) (e : mine ≡ None) (f : other ≡ Some t) where
    unknown : Carried → o ≡ None
    unknown (on_both h g) = absurd (has_and_lacks h (lacks_none e))
    unknown (clashing l) = absurd (has_and_lacks l.has (lacks_none e))
    unknown (kept h l n c) = absurd (has_and_lacks h (lacks_none e))
    unknown (brought l h n c) = elim (missing_or_there o) [
      | inl none ↦ none
      | inr known ↦ elim (within_or_news t o) [
        | inl within ↦ absurd (c (agree_of (within [] (state_root t) ∙ sym h)
            (λ m. state_unmarked other [] (h ∙ sym (within [] (state_root t)) ∙ m))))
        | inr news ↦ absurd (n (record {
          has = h;
          lacks = l;
          known = known;
          news = (news.0, ap (λ (x : Option Tree). state x news.0) f ∙ news.1, news.2);
        }))
      ]
    ]

    pub carried_other : (b : Bool) → IsTrue b ↔ (o ≡ None) → IsTrue b ↔ Carried
    carried_other b h = (
      λ true_is. (let gone = ap (λ (x : Archive). state x []) (h.0 true_is) in
          brought (lacks_none e) (has_some f) (λ l. l.known gone) (λ a. has_and_lacks (has_some f) (sym (agree_same a) ∙ gone))),
      λ c. h.1 (unknown c),
    )

-- ---- a name

same_answers : {P : Type 0} (a b : Bool) → IsTrue b ↔ P → IsTrue (beq a b) ↔ (IsTrue a ↔ P)
same_answers true true h = is_so ((λ _. h.0 refl), (λ _. refl))
same_answers true false h = is_not (λ e. false≢true (h.1 (e.0 refl)))
same_answers false true h = is_not (λ e. false≢true (e.1 (h.0 refl)))
same_answers false false h = is_so ((λ e. absurd (false≢true e)), h.1)

pub judged : (o : Archive) (mine other : Tree) (names : Names) (k : Name) (a b : Bool) (c : Archive) (l r : Option Tree) → a ≡ contains names k
    → c ≡ at_path o (k ∷ []) → l ≡ below k mine → r ≡ below k other → IsTrue b ↔ IsCarried (state c) (state l) (state r) []
    → IsTrue (beq a b) ↔ IsJudged o mine other names k
judged o mine other names k a b c l r e f g h carried =
    subst (λ (x : Bool). IsTrue (beq a b) ↔ (IsTrue x ↔ IsCarried (state o) (state (Some mine)) (state (Some other)) (k ∷ []))) e
    (same_answers a b (as_well lower ((λ x. along.1 x), (λ x. along.0 x))))
  where
    along : IsCarried (state o) (state (Some mine)) (state (Some other)) (k ∷ [])
        ↔ IsCarried (state (at_path o (k ∷ []))) (state (at_path (Some mine) (k ∷ []))) (state (at_path (Some other) (k ∷ []))) []
    along = carried_along o (Some mine) (Some other) (k ∷ [])

    lower : IsTrue b ↔ IsCarried (state (at_path o (k ∷ []))) (state (at_path (Some mine) (k ∷ []))) (state (at_path (Some other) (k ∷ []))) []
    lower = subst (λ (t : Trio). IsTrue b ↔ IsCarried (state t.archive) (state t.left) (state t.right) [])
        (λ i. record { archive = f i; left = (g ∙ sym (tree_step mine k)) i; right = (h ∙ sym (tree_step other k)) i }) carried

-- ---- all names

module _ (o : Archive) (mine other : Tree) (names : Names) where
  among : (list : List Name) → AllJudged o mine other names list → (k : Name) → list_any (eq_by_cmp name_cmp k) list ≡ true
      → IsJudged o mine other names k
  among [] all k e = absurd (true≢false (sym e))
  among (x ∷ list) all k e = by (or_cases (eq_by_cmp name_cmp k x) (list_any (eq_by_cmp name_cmp k) list) e)
      (λ later. among list (All-tail (IsJudged o mine other names) x list all) k later)
    where
      by : (eq_by_cmp name_cmp k x ≡ true) ⊎ (list_any (eq_by_cmp name_cmp k) list ≡ true)
          → (list_any (eq_by_cmp name_cmp k) list ≡ true → IsJudged o mine other names k) → IsJudged o mine other names k
      by (inl tie) rest = subst (IsJudged o mine other names) (sym (tie_one k x tie)) (All-head (IsJudged o mine other names) x list all)
      by (inr later) rest = rest later

  nowhere : (k : Name) → below k mine ≡ None → below k other ≡ None → IsCarried (state o) (state (Some mine)) (state (Some other)) (k ∷ []) → ⊥
  nowhere k e f (on_both h g) = has_and_lacks h (state_down mine k [] ∙ lacks_none e)
  nowhere k e f (clashing l) = has_and_lacks l.has (state_down mine k [] ∙ lacks_none e)
  nowhere k e f (kept h l n c) = has_and_lacks h (state_down mine k [] ∙ lacks_none e)
  nowhere k e f (brought l h n c) = has_and_lacks h (state_down other k [] ∙ lacks_none f)

  pub all_names : (list : List Name) → from_list list ≡ names → EachJudged o mine other names mine → EachJudged o mine other names other
      → AllJudged o mine other names list → AreCarried (state o) (state (Some mine)) (state (Some other)) [] names
  all_names list is each_mine each_other all k = go (below k mine) (below k other) refl refl
    where
      go : (a b : Option Tree) → below k mine ≡ a → below k other ≡ b → IsJudged o mine other names k
      go (Some c) b e f = each_mine k c e
      go None (Some d) e f = each_other k d f
      go None None e f = in_set (contains names k) refl
        where
          in_set : (b : Bool) → contains names k ≡ b → IsJudged o mine other names k
          in_set true there = among list all k (sym (contains-from_list name_total list k) ∙ ap (λ (n : Names). contains n k) is ∙ there)
          in_set false apart = ((λ there. absurd (false≢true (sym apart ∙ there))), (λ c. absurd (nowhere k e f c)))

  pub names_listed : (list : List Name) (b : Bool) → from_list list ≡ names → EachJudged o mine other names mine
      → EachJudged o mine other names other → IsTrue b ↔ AllJudged o mine other names list
      → IsTrue b ↔ AreCarried (state o) (state (Some mine)) (state (Some other)) [] names
  names_listed list b is each_mine each_other h =
      (λ true_is. all_names list is each_mine each_other (h.0 true_is), λ carried. h.1 (λ i d lt. carried _))
