-- The files of vCards meet the laws of a form.
use Rattle.std.proofs.Common.{[], ◌∷◌, None, refl, sym, ap, ◌∙◌, subst}
use Rattle.std.specs.Prelude.{All, IsUtf8}
use Rattle.std.proofs.lemmas.List.Elements.{All-nil, All-cons}
use Rattle.hm_lines.specs.Folding.{IsPlain}
use Rattle.hm_lines_cards.specs.Lines.{Line, IsLine, AreFew}
use Rattle.hm_lines_files.specs.Components.{Component, Layout, components}
use Rattle.hm_lines_files.specs.Rewriting.{showing}
use Rattle.hm_lines_files.specs.Forms.{shown_of}
use Rattle.hm_lines_files.specs.FormLaws.{IsForm}
use Rattle.hm_lines_files.proofs.KnownNames.{capital, all_apart, sound_line}
use Rattle.hm_vcard.specs.Cards as cards
use Rattle.hm_vcard.specs.Cards.{CardLines, IsProperty, IsCard, begin_line, version_line, end_line, frame_names, is_frame, is_line, birthday, single, component_with, pieces_with, IsCardComponent, IsFileOfCards, card_template, vcards}
use Rattle.hm_vcard.proofs.FileStops.{lines_are, layout_with}
use Rattle.hm_vcard.proofs.CardNames.{name_named, card_properties}
use Rattle.hm_vcard.proofs.CardProperties.{card_are_lines, shown_few}
use Rattle.hm_vcard.proofs.Showing.{shows_again, new_card}
use Rattle.hm_vcard.proofs.CardFiles.{renewed_cards, components_fit, IsFull, all_full, cards_once, HasNoBlank, all_no_blank}

-- ---- the form

abbrev IsSoundLine : Line → Type 0
IsSoundLine l = IsLine l × (IsPlain l.0 × IsUtf8 l.0)

pub vcards_form : IsForm vcards
vcards_form = record {
  properties = card_properties;
  word = name_named.0;
  capitals = capital card_template.key refl;
  apart = all_apart card_template.key cards.properties refl;
  front = refl;
  more = refl;
  end = sound_line end_line refl refl refl;
  front_lines = All-cons IsSoundLine (begin_line, None) ((version_line, None) ∷ []) (tt, sound_line begin_line refl refl refl)
      (All-cons IsSoundLine (version_line, None) [] (tt, sound_line version_line refl refl refl) (All-nil IsSoundLine));
  more_lines = All-nil IsSoundLine;
  new = λ o k filled. new_card k;
  lines = λ o c fit. subst (λ (d : Component). All IsLine d.lines) (sym fit.same) (card_are_lines fit.card fit.is);
  few = λ o c fit. subst (λ (d : Component). AreFew (shown_of vcards o) d.lines) (sym fit.same) (shown_few o fit.card fit.is);
  showing = λ o c tree fit is_card.
      subst (λ (d : Component). IsCardComponent (showing (shown_of vcards o) tree d)) (sym fit.same) (shows_again o tree is_card fit.card fit.is);
  some = λ o. (record { pieces = []; end = [] }, record { cards = []; each = All-nil IsCard; same = refl });
  once = λ o l m one two same.
      one.same ∙ (λ i. layout_with (cards_once one.cards two.cards one.each two.each (sym (lines_are l one) ∙ same ∙ lines_are m two) i)) ∙ sym two.same;
  full = λ o l is. subst (All IsFull) (sym (lines_are l is)) (all_full is.cards is.each);
  no_blank = λ o l is. subst (All HasNoBlank) (sym (lines_are l is)) (all_no_blank is.cards is.each);
  fit = λ o l is. subst (λ (m : Layout). All IsCardComponent (components m)) (sym is.same) (components_fit is.cards is.each);
  renewed = λ o l pieces is r.
      let new = renewed_cards l.pieces pieces r is.cards (ap (λ (m : Layout). m.pieces) is.same) is.each in
      record { cards = new.cards; each = new.each; same = λ i. record { pieces = new.same i; end = (ap (λ (m : Layout). m.end) is.same) i } };
}
