-- The lines of cards: what they have to be, those with new values, and new ones.
use Rattle.std.proofs.Common.{◌≡◌, ◌+◌, ◌≤◌, true, false, List, [], ◌∷◌, length, get_or, Option, Some, None, refl, sym, ◌∙◌, subst, arith}
use Rattle.std.specs.Prelude.{All, codes}
use Rattle.std.specs.List.{list_any}
use Rattle.std.proofs.lemmas.List.Elements.{All-nil, All-cons, All-head, All-tail, All-filter}
use Rattle.hm_tree.specs.Names.{Name}
use Rattle.hm_schema.specs.Values.{OptionsValue}
use Rattle.hm_lines.specs.declared.content.LineParts.{LineParts}
use Rattle.hm_lines_cards.specs.Lines.{Line, HasParts, IsLine, texts_of, AreFew}
use Rattle.hm_lines_cards.specs.Rewriting.{Property, with_value, new_line}
use Rattle.hm_lines_cards.proofs.Laws.{made_new, made_is_line, same_property}
use Rattle.hm_format.specs.Options.{values_of, is_among}
use Rattle.hm_lines_files.specs.Forms.{shown_of}
use Rattle.hm_vcard.specs.Cards as cards
use Rattle.hm_vcard.specs.Cards.{CardLines, IsProperty, IsCard, begin_line, version_line, end_line, frame_names, is_frame, is_line, birthday, single, component_with, pieces_with, IsCardComponent, IsFileOfCards, vcards}
use Rattle.hm_vcard.proofs.CardNames.{IsNamed, others}
use Rattle.hm_lines_files.proofs.KnownNames.{all_true}

-- ---- lines

-- a line of a card's own has the parts that it says
parts_known : (l : Line) → IsProperty l → IsLine l
parts_known l p = subst (λ (o : Option _). IsLine (l.0, o)) (sym p.are) p.content

pub all_are_lines : (ps : List Line) → All IsProperty ps → All IsLine ps
all_are_lines [] all = All-nil IsLine
all_are_lines (p ∷ ps) all =
    All-cons IsLine p ps (parts_known p (All-head IsProperty p ps all)) (all_are_lines ps (All-tail IsProperty p ps all))

pub card_are_lines : (card : CardLines) → IsCard card → All IsLine (component_with card).lines
card_are_lines card is =
    All-cons IsLine (card.begin, None) ((card.version, None) ∷ card.properties) tt
    (All-cons IsLine (card.version, None) card.properties tt (all_are_lines card.properties is.properties))

-- ---- properties

pub made : (l : Line) → IsLine l → IsProperty l → (t : Name) → Unit {0} → IsProperty (with_value l.0 l.1 t)
made l is p t good = record {
  parts = p.parts;
  are = are;
  content = subst (HasParts (with_value l.0 l.1 t).0) are (made_is_line l is t);
  free = (λ i. list_any (λ name. same_property name l is t i) frame_names) ∙ p.free;
}
  where
    go : (o : Option LineParts) → o ≡ Some p.parts → (with_value l.0 o t).1 ≡ Some p.parts
    go None e = let bad : ⊥ = cc in absurd bad
    go (Some parts) e = e

    are : (with_value l.0 l.1 t).1 ≡ Some p.parts
    are = go l.1 p.are

pub made_new_line : (p : Property) → IsNamed p → (t : Name) → Unit {0} → IsProperty (new_line p.0 t)
made_new_line p named t good = record {
  parts = record { name_from = 0; name_to = length p.0; value_from = length p.0 + 1 };
  are = refl;
  content = made_new p.0 named.0 t;
  free = named.1 t;
}

-- what is said of each property that may be shown holds of those that are
pub all_shown : (P : Property → Type 0) (o : OptionsValue) → All P cards.properties → All P (shown_of vcards o)
all_shown P o all = All-filter (λ p. is_among (values_of o.pairs (codes "show")) p.0) P cards.properties all

abbrev pub IsFew : List Line → Property → Type 0
IsFew lines p = p.1 ≡ false → length (texts_of p.0 lines) ≤ 1

few_others : (lines : List Line) → All (IsFew lines) others
few_others lines i d lt e = let yes : (get_or others i d).1 ≡ true = all_true (λ p. p.1) others refl i d lt in let bad : ⊥ = cc in absurd bad

-- of one that isn't the date of birth there may be many texts
few_all : (lines : List Line) → length (texts_of birthday lines) ≤ 1 → All (IsFew lines) cards.properties
few_all lines few = All-cons (IsFew lines) (birthday, false) others (λ e. few) (few_others lines)

pub card_few : (card : CardLines) → IsCard card → length (texts_of birthday card.properties) ≤ 1
card_few card is = is.few 0 (birthday, false) (omega arith) refl

pub shown_few : (o : OptionsValue) (card : CardLines) → IsCard card → AreFew (shown_of vcards o) (component_with card).lines
shown_few o card is = all_shown (IsFew (component_with card).lines) o (few_all (component_with card).lines (card_few card is))
