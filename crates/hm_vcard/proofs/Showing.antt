-- A card that is to show another tree, and a new one, are cards.
use Rattle.std.proofs.Common.{◌≡◌, ◌≢◌, ℕ, ◌≤◌, Bool, true, false, cond, List, [], ◌∷◌, ◌++◌, length, filter, slice_get, Option, Some, None, refl, sym, ap, subst, arith}
use Rattle.std.specs.Prelude.{All, codes}
use Rattle.std.specs.List.{cons_option, flat_map}
use Rattle.std.proofs.lemmas.List.Elements.{All-nil, All-cons, All-append, All-filter}
use Rattle.std.proofs.lemmas.Option.{slice_get_within, get_or_from_slice_get}
use Rattle.hm_tree.specs.Names.{Name}
use Rattle.hm_tree.specs.Nodes.{Tree}
use Rattle.hm_schema.specs.Values.{OptionsValue}
use Rattle.hm_book_cards.specs.Cards.{Shown, IsCard as IsTreeOfCard}
use Rattle.hm_lines_cards.specs.Lines.{Line, AreProperties, text_shown, texts_of, AreFew}
use Rattle.hm_lines_cards.specs.Rewriting.{Property, line_in, new_line, rewritten_from, lines_for, rewritten}
use Rattle.hm_lines_cards.proofs.Laws.{in_kept, in_new, rewritten_few, key_stays, unparted_hidden}
use Rattle.hm_format.specs.Options.{values_of, is_among}
use Rattle.hm_lines_files.specs.Rewriting.{blank, showing}
use Rattle.hm_lines_files.specs.Forms.{shown_of}
use Rattle.hm_lines_files.proofs.ShownProperties.{shown_properties}
use Rattle.hm_vcard.specs.Cards as cards
use Rattle.hm_vcard.specs.Cards.{CardLines, IsProperty, IsCard, begin_line, version_line, end_line, frame_names, is_frame, is_line, birthday, single, component_with, pieces_with, IsCardComponent, IsFileOfCards, card_template, vcards}
use Rattle.hm_vcard.proofs.CardNames.{IsNamed, others, all_named, name_named, card_properties}
use Rattle.hm_lines_files.proofs.KnownNames.{capital, all_apart}
use Rattle.hm_vcard.proofs.CardProperties.{card_are_lines, all_are_lines, made, made_new_line, all_shown, IsFew, card_few, shown_few}

-- ---- a card that is to show another tree

module _ (o : OptionsValue) (tree : Tree) (is_card : IsTreeOfCard (shown_of vcards o) tree) (card : CardLines) (is : IsCard card) where
  abbrev shown : Shown
  shown = shown_of vcards o

  abbrev all : List Line
  all = (component_with card).lines

  abbrev new : List Line
  new = rewritten_from shown tree all 2 card.properties ++ flat_map (lines_for tree all) shown

  are : AreProperties shown
  are = shown_properties cards.properties o card_properties

  -- the two lines in front stay
  front : rewritten shown tree all ≡ (card.begin, None) ∷ (card.version, None) ∷ new
  front i =
      (line_in (unparted_hidden shown card.begin i) tree all 0 (card.begin, None)
      ++ (line_in (unparted_hidden shown card.version i) tree all 1 (card.version, None) ++ rewritten_from shown tree all 2 card.properties))
      ++ flat_map (lines_for tree all) shown

  new_properties : All IsProperty new
  new_properties =
      All-append IsProperty (rewritten_from shown tree all 2 card.properties) (flat_map (lines_for tree all) shown)
      (in_kept IsProperty (λ t. Unit {0}) made tree (λ k i d lt. tt) shown all 2 card.properties (all_are_lines card.properties is.properties) is.properties)
      (in_new IsProperty (λ t. Unit {0}) made tree (λ k i d lt. tt) IsNamed made_new_line all shown (all_shown IsNamed o all_named))

  abbrev values : List Name
  values = values_of o.pairs (codes "show")

  -- there is one date of birth still, be it shown or not
  few_birthdays : (b : Bool) → is_among values birthday ≡ b → length (texts_of birthday (rewritten shown tree all)) ≤ 1
  few_birthdays true e =
      let first : shown ≡ (birthday, false) ∷ filter (λ p. is_among values p.0) others
      = ap (λ b. cond b ((birthday, false) ∷ filter (λ p. is_among values p.0) others) (filter (λ p. is_among values p.0) others)) e in
      subst (λ (ps : Shown). AreFew ps (rewritten shown tree all)) first
      (rewritten_few shown are tree is_card all (card_are_lines card is) (shown_few o card is))
      0 (birthday, false) (omega arith) refl
  few_birthdays false e =
      let same = key_stays shown are birthday (capital birthday refl) apart tree all (card_are_lines card is) in
      subst (λ (ts : List Name). length ts ≤ 1) (sym same) (card_few card is)
    where
      rest : shown ≡ filter (λ p. is_among values p.0) others
      rest = ap (λ b. cond b ((birthday, false) ∷ filter (λ p. is_among values p.0) others) (filter (λ p. is_among values p.0) others)) e

      not_birthday : All (λ (p : Property). p.0 ≢ birthday) shown
      not_birthday =
          subst (All (λ (p : Property). p.0 ≢ birthday)) (sym rest)
          (All-filter (λ p. is_among values p.0) (λ (p : Property). p.0 ≢ birthday) others (all_apart birthday others refl))

      apart : (i : ℕ) (p : Property) → slice_get shown i ≡ Some p → p.0 ≡ birthday → ⊥
      apart i p at = subst (λ (q : Property). q.0 ≢ birthday) (get_or_from_slice_get shown i p p at) (not_birthday i p (slice_get_within shown i p at))

  again : IsCard (record { begin = card.begin; version = card.version; properties = new; end = card.end })
  again = record {
    begins = is.begins;
    versioned = is.versioned;
    properties = new_properties;
    ends = is.ends;
    few = All-cons (IsFew new) (birthday, false) []
        (λ e. subst (λ (ls : List Line). length (texts_of birthday ls) ≤ 1) front (few_birthdays (is_among values birthday) refl)) (All-nil (IsFew new));
  }

  pub shows_again : IsCardComponent (showing shown tree (component_with card))
  shows_again = record {
    card = record { begin = card.begin; version = card.version; properties = new; end = card.end };
    is = again;
    same = λ i. record { lines = front i; end = card.end };
  }

-- ---- a new card

one_few : (l : Line) → length (texts_of birthday (l ∷ [])) ≤ 1
one_few l = go (text_shown birthday l)
  where
    go : (o : Option Name) → length (cons_option o []) ≤ 1
    go None = omega arith
    go (Some t) = omega arith

pub new_card : (k : Name) → IsCardComponent (blank card_template k)
new_card k = record {
  card = record { begin = begin_line; version = version_line; properties = new_line card_template.key k ∷ []; end = end_line };
  is = record {
    begins = refl;
    versioned = refl;
    properties = All-cons IsProperty (new_line card_template.key k) [] (made_new_line (card_template.key, false) name_named k tt) (All-nil IsProperty);
    ends = refl;
    few = All-cons (IsFew (new_line card_template.key k ∷ [])) (birthday, false) [] (λ e. one_few (new_line card_template.key k)) (All-nil (IsFew (new_line card_template.key k ∷ [])));
  };
  same = refl;
}
