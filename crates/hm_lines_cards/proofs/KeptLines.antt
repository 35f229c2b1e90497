-- What stays of the lines that are rewritten for a card.
use Rattle.std.proofs.Common.{◌≡◌, ℕ, suc, ◌+◌, Bool, true, false, cond, ◌||◌, List, [], ◌∷◌, ◌++◌, length, take, map, slice_get, get_or, Option, Some, None, refl, sym, ap, ◌∙◌, subst, arith}
use Rattle.std.specs.Prelude.{All}
use Rattle.std.specs.Option.{is_some}
use Rattle.std.specs.Ordering.{eq_by_cmp}
use Rattle.std.specs.List.{flat_map, cons_option}
use Rattle.std.specs.FinSet.{FinSet, contains, from_list, contains-from_list}
use Rattle.std.proofs.lemmas.Bool.{eqb-true}
use Rattle.std.proofs.lemmas.Option.{same_Some, slice_get_within, get_or_from_slice_get}
use Rattle.std.proofs.lemmas.List.{append_assoc, length-append, get_or_at}
use Rattle.std.proofs.lemmas.List.Elements.{All-nil, All-cons, All-append, All-head, All-tail, filter_map-append}
use Rattle.hm_tree.specs.Names.{Name, name_cmp}
use Rattle.hm_tree.specs.Nodes.{Tree}
use Rattle.hm_tree.specs.Sets.{ascending}
use Rattle.hm_tree.proofs.Sorted.{name_total}
use Rattle.hm_tree.proofs.NameSets.{tied_one, tied_self}
use Rattle.hm_tree.proofs.Ascending.{contains-ascending}
use Rattle.hm_schema.proofs.NamesOf.{all_len}
use Rattle.hm_lines.specs.Content.{IsWord}
use Rattle.hm_lines.specs.Values.{escaped}
use Rattle.hm_lines.specs.declared.content.LineParts.{LineParts}
use Rattle.hm_book_cards.specs.Cards.{Shown, Suits, IsCard, texts_at}
use Rattle.hm_book_cards.proofs.Laws.{card_again}
use Rattle.hm_lines_cards.specs.Lines.{Line, HasParts, AreProperties, IsLine, is_named, is_of, text_shown, texts_of, set_of, AreFew}
use Rattle.hm_lines_cards.specs.Rewriting.{Property, stays, if_stays, with_value, is_same, one_line, first_in, target, is_at, property_of, line_in, line_at, rewritten_from, new_line, new_texts, lines_for, rewritten}
use Rattle.hm_lines_cards.specs.Kept.{shown_property, IsApart, AreAlike, AreKept, behind, same, gone, changed}
use Rattle.hm_lines_cards.proofs.PropertyNames.{property_found, found_there}
use Rattle.hm_lines_cards.proofs.Parts.{front, front_taken, with_other}
use Rattle.hm_lines_cards.proofs.MadeLines.{made_shows, new_is_of}
use Rattle.hm_lines_cards.proofs.ShownCards.{shows_one, shows_set, suit_at, few_at}
use Rattle.hm_lines_cards.proofs.Targets.{IsTarget, has_target, no_target, target_is}
use Rattle.hm_lines_cards.proofs.Texts.{one_list}

-- ---- sets of one text

untied : (k t : Name) → eq_by_cmp name_cmp k t ≡ false → eq_by_cmp name_cmp t k ≡ false
untied k t e = go (eq_by_cmp name_cmp t k) refl
  where
    go : (b : Bool) → eq_by_cmp name_cmp t k ≡ b → b ≡ false
    go false h = refl
    go true h = sym (tied_self k) ∙ ap (λ n. eq_by_cmp name_cmp k n) (sym (tied_one t k h)) ∙ e

in_one : (o : Option Name) (k : Name) → is_same o k ≡ false → contains (from_list {R = name_cmp} (cons_option o [])) k ≡ false
in_one None k e = contains-from_list name_total [] k
in_one (Some t) k e = contains-from_list name_total (t ∷ []) k ∙ ap (λ b. b || false) (untied t k e)

one_ascending : (set : FinSet name_cmp) → Suits false set → (o : Option Name) → first_in set ≡ o → ascending set ≡ cons_option o []
one_ascending set suits o e =
    let long = all_len set in
    let most = suits.few refl in
    sym (one_list (ascending set) (omega (arith, long, most))) ∙ ap (λ o. cons_option o []) e

-- a line that shows a text which isn't in a set of lines is apart from these
apart_from : (q : Name) (ls : List Line) (l : Line) (t : Name) → text_shown q l ≡ Some t → contains (set_of q ls) t ≡ false → IsApart q ls l
apart_from q ls l t shows none = λ k of_k. ap (λ n. contains (set_of q ls) n) (same_Some k t (sym of_k ∙ shows)) ∙ none

-- another value stands behind the same bytes
alike : (l : Line) → IsLine l → (q : Name) → is_of q l ≡ true → (t : Name) → AreAlike l (with_value l.0 l.1 t)
alike l is q of t = go l.1 refl is of
  where
    go : (o : Option LineParts) → l.1 ≡ o → HasParts l.0 o → is_named q l.0 o ≡ true → AreAlike l (with_value l.0 o t)
    go None e is of = let bad : ⊥ = cc in absurd bad
    go (Some parts) e is of = record {
      parts = parts;
      one_has = e;
      two_has = refl;
      same =
          front_taken l.0 parts is ∙ sym (ap (λ f. take parts.value_from (f ++ escaped t)) (front_taken l.0 parts is) ∙ front_taken (front l.0 parts is ++ escaped t) parts (with_other l.0 parts is (escaped t)));
    }

module _ (properties : Shown) (are : AreProperties properties) (card : Tree) (is_card : IsCard properties card) (was : List Line) (is : All IsLine was) (few : AreFew properties was) where
  abbrev now : List Line
  now = rewritten properties card was

  suits : (i : ℕ) (q : Property) → slice_get properties i ≡ Some q → Suits q.1 (texts_at q.0 card)
  suits i q at = suit_at properties card (card_again properties card are.names is_card).0 i q at

  -- the lines now show the texts of the card
  own : (i : ℕ) (q : Property) → slice_get properties i ≡ Some q → set_of q.0 now ≡ texts_at q.0 card
  own i q at = shows_set properties are card was is i q at (suits i q at) (few_at properties was few i q at)

  abbrev Kept : List Line → List Line → Type 0
  Kept old new = AreKept properties was now old new

  -- ---- new lines

  abbrev IsOurs : Line → Type 0
  IsOurs l = is_some (shown_property properties l) ≡ true

  ours : (i : ℕ) (p : Property) → slice_get properties i ≡ Some p → (ts : List Name) → All IsOurs (map (new_line p.0) ts)
  ours i p at [] = All-nil IsOurs
  ours i p at (t ∷ ts) =
      All-cons IsOurs (new_line p.0 t) (map (new_line p.0) ts)
      (ap is_some (property_found properties are i p at (new_line p.0 t)
      (new_is_of p.0 (subst (λ (r : Property). IsWord r.0) (get_or_from_slice_get properties i p p at) (are.words i p (slice_get_within properties i p at))) t)))
      (ours i p at ts)

  all_ours : (ps : Shown) → ((i : ℕ) (p : Property) → slice_get ps i ≡ Some p → (ts : List Name) → All IsOurs (map (new_line p.0) ts))
      → All IsOurs (flat_map (lines_for card was) ps)
  all_ours [] each = All-nil IsOurs
  all_ours (p ∷ ps) each =
      All-append IsOurs (lines_for card was p) (flat_map (lines_for card was) ps) (each 0 p refl (new_texts card was p)) (all_ours ps (λ i. each (suc i)))

  -- ---- one line

  module _ (before : List Line) (l : Line) (after : List Line) (stand : was ≡ before ++ l ∷ after) (is_l : IsLine l) where
    module _ (p : Property) (e : property_of properties l ≡ Some p) (i : ℕ) (at : slice_get properties i ≡ Some p) (of : is_of p.0 l ≡ true) (old new : List Line) (rest : Kept old new) where
      many_kept : p.1 ≡ true → Kept (l ∷ old) (if_stays (stays (texts_at p.0 card) (text_shown p.0 l)) l ++ new)
      many_kept many = go (text_shown p.0 l) refl
        where
          by : (t : Name) → text_shown p.0 l ≡ Some t → (b : Bool) → contains (texts_at p.0 card) t ≡ b → Kept (l ∷ old) (if_stays b l ++ new)
          by t shows true there = same rest
          by t shows false there =
              gone e (ap is_some shows) (apart_from p.0 now l t shows (ap (λ (s : FinSet name_cmp). contains s t) (own i p at) ∙ there))
              (λ one. let bad : ⊥ = cc in absurd bad) rest

          go : (o : Option Name) → text_shown p.0 l ≡ o → Kept (l ∷ old) (if_stays (stays (texts_at p.0 card) o) l ++ new)
          go None h = same rest
          go (Some t) h = by t h (contains (texts_at p.0 card) t) refl

      module _ (one : p.1 ≡ false) where
        suits_one : Suits false (texts_at p.0 card)
        suits_one = subst (λ b. Suits b (texts_at p.0 card)) one (suits i p at)

        -- the texts now
        texts_now : (o : Option Name) → first_in (texts_at p.0 card) ≡ o → texts_of p.0 now ≡ cons_option o []
        texts_now o h =
            shows_one properties are card was is i p at (suits i p at) (few_at properties was few i p at) one ∙ one_ascending (texts_at p.0 card) suits_one o h

        set_now : (o : Option Name) → first_in (texts_at p.0 card) ≡ o → set_of p.0 now ≡ from_list {R = name_cmp} (cons_option o [])
        set_now o h = ap (λ ts. from_list {R = name_cmp} ts) (texts_now o h)

        one_kept : set_of p.0 was ≡ from_list {R = name_cmp} (cons_option (text_shown p.0 l) [])
            → Kept (l ∷ old) (one_line (first_in (texts_at p.0 card)) (text_shown p.0 l) l ++ new)
        one_kept was_is = go (first_in (texts_at p.0 card)) (text_shown p.0 l) refl refl
          where
            by : (t : Name) (o : Option Name) → first_in (texts_at p.0 card) ≡ Some t → text_shown p.0 l ≡ o → (b : Bool) → is_same o t ≡ b
                → Kept (l ∷ old) (cond b l (with_value l.0 l.1 t) ∷ new)
            by t o h shows true same_text = same rest
            by t o h shows false other_text =
                let made = made_shows p.0 l is_l of t (suits_one.filled t (contains-ascending (texts_at p.0 card) 0 t h)) in
                changed e one
                (λ k of_k. ap (λ (s : FinSet name_cmp). contains s k) (set_now (Some t) h)
                ∙ in_one (Some t) k (untied k t (ap (λ o. is_same o t) (sym of_k ∙ shows) ∙ other_text)))
                (ap is_some made)
                (apart_from p.0 was (with_value l.0 l.1 t) t made
                (ap (λ (s : FinSet name_cmp). contains s t) (was_is ∙ ap (λ o. from_list {R = name_cmp} (cons_option o [])) shows) ∙ in_one o t other_text))
                (alike l is_l p.0 of t) rest

            go : (n o : Option Name) → first_in (texts_at p.0 card) ≡ n → text_shown p.0 l ≡ o → Kept (l ∷ old) (one_line n o l ++ new)
            go None None h shows = same rest
            go None (Some k) h shows =
                gone e (ap is_some shows) (apart_from p.0 now l k shows (ap (λ (s : FinSet name_cmp). contains s k) (set_now None h) ∙ in_one None k refl))
                (λ one. texts_now None h) rest
            go (Some t) o h shows = by t o h shows (is_same o t) refl

        -- at the target its texts are those of all lines
        target_kept : Kept (l ∷ old) (cond (is_at (length before) (target p.0 was)) (one_line (first_in (texts_at p.0 card)) (text_shown p.0 l) l) (l ∷ []) ++ new)
        target_kept = elim (target_is p.0 was (few_at properties was few i p at one)) [
          | has_target t ↦ by t (is_at (length before) (target p.0 was)) refl
          | no_target none none_of ↦
              subst (λ o. Kept (l ∷ old) (cond (is_at (length before) o) (one_line (first_in (texts_at p.0 card)) (text_shown p.0 l) l) (l ∷ []) ++ new)) (sym none) (same rest)
        ]
          where
            by : (t : IsTarget p.0 was) (b : Bool) → is_at (length before) (target p.0 was) ≡ b
                → Kept (l ∷ old) (cond b (one_line (first_in (texts_at p.0 card)) (text_shown p.0 l) l) (l ∷ []) ++ new)
            by t false h = same rest
            by t true h =
                let place : length t.before ≡ length before = eqb-true (length t.before) (length before) (sym (ap (is_at (length before)) t.at) ∙ h) in
                let here : t.here ≡ l = sym (get_or_at t.before t.here t.after l (length before) place) ∙ ap (λ ls. get_or ls (length before) l) (sym t.are ∙ stand)
                ∙ get_or_at before l after l (length before) refl in
                one_kept (ap (λ ts. from_list {R = name_cmp} ts)
                (ap (texts_of p.0) t.are ∙ filter_map-append (text_shown p.0) t.before (t.here ∷ t.after)
                ∙ (λ j. t.none_before j ++ cons_option (text_shown p.0 (here j)) (t.none_after j))))

    line_kept : (old new : List Line) → Kept old new → Kept (l ∷ old) (line_at properties card was (length before) l ++ new)
    line_kept old new rest = go (property_of properties l) refl
      where
        go : (o : Option Property) → property_of properties l ≡ o → Kept (l ∷ old) (line_in o card was (length before) l ++ new)
        go None e = same rest
        go (Some p) e = let f = found_there (λ (p : Property). is_of p.0 l) properties p e in by f.0 f.1.0 f.1.1 p.1 refl
          where
            by : (i : ℕ) → slice_get properties i ≡ Some p → is_of p.0 l ≡ true → (many : Bool) → p.1 ≡ many
                → Kept (l ∷ old) (cond many (if_stays (stays (texts_at p.0 card) (text_shown p.0 l)) l)
                (cond (is_at (length before) (target p.0 was)) (one_line (first_in (texts_at p.0 card)) (text_shown p.0 l) l) (l ∷ [])) ++ new)
            by i at of true many = many_kept p e i at of old new rest many
            by i at of false one = target_kept p e i at of old new rest one

  -- ---- all lines

  kept_from : (before ls : List Line) (place : ℕ) → place ≡ length before → was ≡ before ++ ls → All IsLine ls → (new : List Line) → All IsOurs new
      → Kept ls (rewritten_from properties card was place ls ++ new)
  kept_from before [] place at stand is new all = behind all
  kept_from before (l ∷ ls) place at stand is new all =
      let behind_l = rewritten_from properties card was (place + 1) ls in
      let long = length-append before (l ∷ []) in
      let rest = kept_from (before ++ l ∷ []) ls (place + 1) (omega (arith, at, long)) (stand ∙ sym (append_assoc before (l ∷ []) ls)) (All-tail IsLine l ls is) new all in
      subst (Kept (l ∷ ls)) (sym (append_assoc (line_at properties card was place l) behind_l new))
      (subst (λ j. Kept (l ∷ ls) (line_at properties card was j l ++ (behind_l ++ new))) (sym at)
      (line_kept before l ls stand (All-head IsLine l ls is) ls (behind_l ++ new) rest))

  pub lines_kept : AreKept properties was now was now
  lines_kept =
      kept_from [] was 0 refl refl is (flat_map (lines_for card was) properties) (all_ours properties ours)
