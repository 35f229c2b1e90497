-- Lines that are to show their own card stay.
use Rattle.std.proofs.Common.{◌≡◌, ℕ, zero, suc, ◌+◌, ◌<◌, Bool, true, false, not, cond, List, [], ◌∷◌, ◌++◌, length, get_or, map, filter, slice_get, Option, Some, None, refl, sym, ap, ◌∙◌, subst, arith}
use Rattle.std.specs.Prelude.{All, IsUtf8}
use Rattle.std.specs.Option.{is_none}
use Rattle.std.specs.Ordering.{eq_by_cmp}
use Rattle.std.specs.Cmp.{Equal-is}
use Rattle.std.specs.List.{list_any, flat_map, cons_option}
use Rattle.std.specs.List.Sorted.{IsStrictlySortedBy}
use Rattle.std.specs.FinSet.{FinSet, contains, from_list, contains-from_list}
use Rattle.std.proofs.lemmas.Bool.{eqb-true, or_left, or_right}
use Rattle.std.proofs.lemmas.Cmp.{tied_itself}
use Rattle.std.proofs.lemmas.Option.{slice_get-get_or, slice_get_within, get_or_from_slice_get}
use Rattle.std.proofs.lemmas.List.{get_or_at, append-nil}
use Rattle.std.proofs.lemmas.List.Elements.{filter_map-append}
use Rattle.hm_tree.specs.Names.{Name, name_cmp}
use Rattle.hm_tree.specs.Nodes.{Tree}
use Rattle.hm_tree.specs.Sets.{ascending}
use Rattle.hm_tree.proofs.Sorted.{name_total}
use Rattle.hm_tree.proofs.Ascending.{ascending_is, contains-ascending, set_of-ascending}
use Rattle.hm_tree.specs.Sets.{new_names}
use Rattle.hm_book_cards.specs.Cards.{Shown, texts_at}
use Rattle.hm_book_cards.proofs.TextTrees.{none_ascending}
use Rattle.hm_lines_cards.specs.Lines.{Line, AreProperties, IsLine, is_of, text_shown, texts_of, set_of, card_of, AreFew}
use Rattle.hm_lines_cards.specs.Rewriting.{Property, stays, if_stays, with_value, one_line, first_in, target, line_for, is_at, property_of, line_in, line_at, rewritten_from, new_line, new_texts, lines_for, rewritten, IsShown, AreShown}
use Rattle.hm_lines_cards.proofs.PropertyNames.{found_there}
use Rattle.hm_lines_cards.proofs.Targets.{IsTarget, has_target, no_target, target_is, no_lines}
use Rattle.hm_lines_cards.proofs.ShownCards.{few_at}
use Rattle.hm_lines_cards.proofs.OwnCards.{own_texts}

-- lines each of which stays
stays_from : (properties : Shown) (card : Tree) (all : List Line) (place : ℕ) (ls : List Line)
    → ((k : ℕ) → k < length ls → (d : Line) → line_at properties card all (place + k) (get_or ls k d) ≡ get_or ls k d ∷ [])
    → rewritten_from properties card all place ls ≡ ls
stays_from properties card all place [] each = refl
stays_from properties card all place (l ∷ ls) each =
    let here : place + 0 ≡ place = omega arith in
    (λ i.
    (ap (λ j. line_at properties card all j l) (sym here) ∙ each 0 (omega arith) l) i
    ++ stays_from properties card all (place + 1) ls
    (λ k lt d. let next : (place + 1) + k ≡ place + suc k = omega arith in
    ap (λ j. line_at properties card all j (get_or ls k d)) next ∙ each (suc k) (omega (arith, lt)) d) i)

-- a name is tied to itself
tied : (t : Name) → eq_by_cmp name_cmp t t ≡ true
tied t = (Equal-is (name_cmp t t)).1 (tied_itself name_total t)

-- a text that a line shows is among those of all
among : (q : Name) (ls : List Line) (k : ℕ) (d : Line) → k < length ls → (t : Name) → text_shown q (get_or ls k d) ≡ Some t
    → list_any (eq_by_cmp name_cmp t) (texts_of q ls) ≡ true
among q [] k d lt t e = absurd (omega (arith, lt))
among q (l ∷ ls) zero d lt t e =
    ap (λ o. list_any (eq_by_cmp name_cmp t) (cons_option o (texts_of q ls))) e ∙ or_left (eq_by_cmp name_cmp t t) (list_any (eq_by_cmp name_cmp t) (texts_of q ls)) (tied t)
among q (l ∷ ls) (suc k) d lt t e = go (text_shown q l) (among q ls k d (omega (arith, lt)) t e)
  where
    go : (o : Option Name) → list_any (eq_by_cmp name_cmp t) (texts_of q ls) ≡ true → list_any (eq_by_cmp name_cmp t) (cons_option o (texts_of q ls)) ≡ true
    go None rest = rest
    go (Some n) rest = or_right (eq_by_cmp name_cmp t n) (list_any (eq_by_cmp name_cmp t) (texts_of q ls)) rest

-- the first of a set of one text at the most
first_of_one : (o : Option Name) → first_in (from_list {R = name_cmp} (cons_option o [])) ≡ o
unfolding IsStrictlySortedBy
first_of_one None = ap (λ ns. slice_get ns 0) none_ascending
first_of_one (Some t) = ap (λ ns. slice_get ns 0) (ascending_is (t ∷ []) (from_list {R = name_cmp} (t ∷ [])) (tt, tt) refl)

-- a line that shows what it's to show
one_stays : (o : Option Name) (l : Line) → one_line o o l ≡ l ∷ []
one_stays None l = refl
one_stays (Some t) l = ap (λ b. cond b l (with_value l.0 l.1 t) ∷ []) (tied t)

none_left : (set : FinSet name_cmp) → new_names set set ≡ []
none_left set = go (ascending set) (λ i k lt. contains-ascending set i (get_or (ascending set) i k) (slice_get-get_or (ascending set) i k lt))
  where
    go : (names : List Name) → All (λ k. contains set k ≡ true) names → filter (λ k. not (contains set k)) names ≡ []
    go [] all = refl
    go (k ∷ names) all =
        ap (λ b. cond (not b) (k ∷ filter (λ k. not (contains set k)) names) (filter (λ k. not (contains set k)) names)) (all 0 k (omega arith))
        ∙ go names (λ i d lt. all (suc i) d (omega (arith, lt)))

module _ (lines : List Line) (properties : Shown) (card : Tree) (own : (i : ℕ) (q : Property) → slice_get properties i ≡ Some q → texts_at q.0 card ≡ set_of q.0 lines)
    (few : AreFew properties lines) where
  module _ (i : ℕ) (q : Property) (at : slice_get properties i ≡ Some q) where
    many_stays : (k : ℕ) (d : Line) → k < length lines → stays (texts_at q.0 card) (text_shown q.0 (get_or lines k d)) ≡ true
    many_stays k d lt = go (text_shown q.0 (get_or lines k d)) refl
      where
        go : (o : Option Name) → text_shown q.0 (get_or lines k d) ≡ o → stays (texts_at q.0 card) o ≡ true
        go None e = refl
        go (Some t) e =
            ap (λ (s : FinSet name_cmp). contains s t) (own i q at) ∙ contains-from_list name_total (texts_of q.0 lines) t ∙ among q.0 lines k d lt t e

    -- the texts of a property with a target
    target_texts : (t : IsTarget q.0 lines) → texts_of q.0 lines ≡ cons_option (text_shown q.0 t.here) []
    target_texts t =
        ap (texts_of q.0) t.are ∙ filter_map-append (text_shown q.0) t.before (t.here ∷ t.after)
        ∙ (λ j. t.none_before j ++ cons_option (text_shown q.0 t.here) (t.none_after j))

    first_shown : (t : IsTarget q.0 lines) → first_in (texts_at q.0 card) ≡ text_shown q.0 t.here
    first_shown t =
        ap (λ (s : FinSet name_cmp). first_in s) (own i q at ∙ ap (λ ts. from_list {R = name_cmp} ts) (target_texts t))
        ∙ first_of_one (text_shown q.0 t.here)

    one_for : q.1 ≡ false → (k : ℕ) (d : Line) → k < length lines
        → cond (is_at k (target q.0 lines)) (one_line (first_in (texts_at q.0 card)) (text_shown q.0 (get_or lines k d)) (get_or lines k d)) (get_or lines k d ∷ [])
        ≡ get_or lines k d ∷ []
    one_for one k d lt = elim (target_is q.0 lines (few_at properties lines few i q at one)) [
      | has_target t ↦ by t (is_at k (target q.0 lines)) refl
      | no_target e none ↦
          ap (λ o. cond (is_at k o) (one_line (first_in (texts_at q.0 card)) (text_shown q.0 (get_or lines k d)) (get_or lines k d)) (get_or lines k d ∷ [])) e
    ]
      where
        by : (t : IsTarget q.0 lines) (b : Bool) → is_at k (target q.0 lines) ≡ b
            → cond b (one_line (first_in (texts_at q.0 card)) (text_shown q.0 (get_or lines k d)) (get_or lines k d)) (get_or lines k d ∷ []) ≡ get_or lines k d ∷ []
        by t false e = refl
        by t true e =
            let place : length t.before ≡ k = eqb-true (length t.before) k (sym (ap (is_at k) t.at) ∙ e) in
            let here : get_or lines k d ≡ t.here = ap (λ ls. get_or ls k d) t.are ∙ get_or_at t.before t.here t.after d k place in
            (λ j. one_line (first_shown t j) (text_shown q.0 (get_or lines k d)) (get_or lines k d))
            ∙ (λ j. one_line (text_shown q.0 (sym here j)) (text_shown q.0 (get_or lines k d)) (get_or lines k d))
            ∙ one_stays (text_shown q.0 (get_or lines k d)) (get_or lines k d)

    line_for_stays : (k : ℕ) (d : Line) → k < length lines → line_for q (texts_at q.0 card) (is_at k (target q.0 lines)) (get_or lines k d) ≡ get_or lines k d ∷ []
    line_for_stays k d lt = go q.1 refl
      where
        go : (many : Bool) → q.1 ≡ many
            → cond many (if_stays (stays (texts_at q.0 card) (text_shown q.0 (get_or lines k d))) (get_or lines k d))
            (cond (is_at k (target q.0 lines)) (one_line (first_in (texts_at q.0 card)) (text_shown q.0 (get_or lines k d)) (get_or lines k d)) (get_or lines k d ∷ []))
            ≡ get_or lines k d ∷ []
        go true e = ap (λ b. if_stays b (get_or lines k d)) (many_stays k d lt)
        go false e = one_for e k d lt

    nothing_new : new_texts card lines q ≡ []
    nothing_new = go q.1 refl
      where
        go : (many : Bool) → q.1 ≡ many
            → cond many (new_names (set_of q.0 lines) (texts_at q.0 card)) (cond (is_none (target q.0 lines)) (ascending (texts_at q.0 card)) []) ≡ []
        go true e = ap (λ (s : FinSet name_cmp). new_names (set_of q.0 lines) s) (own i q at) ∙ none_left (set_of q.0 lines)
        go false e = elim (target_is q.0 lines (few_at properties lines few i q at e)) [
          | has_target t ↦ ap (λ o. cond (is_none o) (ascending (texts_at q.0 card)) []) t.at
          | no_target f none ↦
              ap (λ o. cond (is_none o) (ascending (texts_at q.0 card)) []) f
              ∙ ap (λ (s : FinSet name_cmp). ascending s) (own i q at ∙ ap (λ ts. from_list {R = name_cmp} ts) (no_lines q.0 lines none)) ∙ none_ascending
        ]

  line_stays : (k : ℕ) (d : Line) → k < length lines → line_at properties card lines k (get_or lines k d) ≡ get_or lines k d ∷ []
  line_stays k d lt = go (property_of properties (get_or lines k d)) refl
    where
      go : (o : Option Property) → property_of properties (get_or lines k d) ≡ o → line_in o card lines k (get_or lines k d) ≡ get_or lines k d ∷ []
      go None e = refl
      go (Some q) e =
          let found = found_there (λ (p : Property). is_of p.0 (get_or lines k d)) properties q e in
          line_for_stays found.0 q found.1.0 k d lt

  nothing_added : (ps : Shown) → ((i : ℕ) (q : Property) → slice_get ps i ≡ Some q → new_texts card lines q ≡ []) → flat_map (lines_for card lines) ps ≡ []
  nothing_added [] none = refl
  nothing_added (p ∷ ps) none = λ j. map (new_line p.0) (none 0 p refl j) ++ nothing_added ps (λ i. none (suc i)) j

  all_stay : rewritten properties card lines ≡ lines
  all_stay =
      (λ j.
      stays_from properties card lines 0 lines
      (λ k lt d. let e : 0 + k ≡ k = omega arith in ap (λ n. line_at properties card lines n (get_or lines k d)) e ∙ line_stays k d lt) j
      ++ nothing_added properties nothing_new j)
      ∙ append-nil lines

-- lines that are to show their own card stay
pub rewritten_stays : (lines : List Line) → All IsLine lines → All (λ (l : Line). IsUtf8 l.0) lines → (properties : Shown) → AreProperties properties
    → AreFew properties lines → rewritten properties (card_of properties lines) lines ≡ lines
rewritten_stays lines is utf8 properties are few =
    all_stay lines properties (card_of properties lines) (own_texts lines is utf8 properties are few) few

-- and so do those that show a card as it is
pub shown_stay : (lines : List Line) (properties : Shown) (card : Tree) → AreShown properties card lines → rewritten properties card lines ≡ lines
shown_stay lines properties card shown = all_stay lines properties card own few
  where
    own : (i : ℕ) (q : Property) → slice_get properties i ≡ Some q → texts_at q.0 card ≡ set_of q.0 lines
    own i q at =
        let here : IsShown card lines q = subst (IsShown card lines) (get_or_from_slice_get properties i q q at) (shown i q (slice_get_within properties i q at)) in
        sym (ap (λ ts. from_list {R = name_cmp} ts) here.0 ∙ set_of-ascending (texts_at q.0 card))

    few : AreFew properties lines
    few i q lt = (shown i q lt).1
