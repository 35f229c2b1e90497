-- What is known of lines and cards. Lines show a card, and what is rewritten for a card shows it; lines that are to show their
-- own card stay; of lines that are rewritten stays what has to; lines of no property stay, in their order, and so does the key
-- that they show; and what is rewritten are content lines of UTF-8 again, which can be folded and read.
pub use Rattle.hm_lines_cards.proofs.PropertyNames.{property_found}
pub use Rattle.hm_lines_cards.proofs.OwnCards.{shown_card, own_texts, texts_utf8}
pub use Rattle.hm_lines_cards.proofs.ShownCards.{rewritten_shows, rewritten_few}
pub use Rattle.hm_lines_cards.proofs.StayingLines.{rewritten_stays}
pub use Rattle.hm_lines_cards.proofs.KeptLines.{lines_kept}
pub use Rattle.hm_lines_cards.proofs.HiddenLines.{is_hidden, hidden_stay}
pub use Rattle.hm_lines_cards.proofs.Keys.{key_stays}
pub use Rattle.hm_lines_cards.proofs.LinesAgain.{in_kept, in_new, rewritten_lines, rewritten_plain}
pub use Rattle.hm_lines_cards.proofs.MadeLines.{parts_of, made_new, made_is_line, same_property, new_is_of, new_shows}
pub use Rattle.hm_lines_cards.proofs.Seconds.{few_more, many_then}
pub use Rattle.hm_lines_cards.proofs.HiddenLines.{unparted_hidden}
use Rattle.std.proofs.Common.{◌≡◌, List, get_or, Option, Some, None, refl, sym, ap, ◌∙◌, subst}
use Rattle.std.specs.Prelude.{All, IsUtf8}
use Rattle.std.specs.Option.{unwrap_or}
use Rattle.std.specs.FinMap.{find}
use Rattle.std.specs.FinSet.{FinSet}
use Rattle.std.proofs.lemmas.Bool.{both_ways}
use Rattle.std.proofs.lemmas.Option.{slice_get-get_or}
use Rattle.hm_tree.specs.Names.{Name, name_cmp}
use Rattle.hm_tree.specs.Nodes.{Tree}
use Rattle.hm_tree.specs.Sets.{ascending}
use Rattle.hm_tree.proofs.Ascending.{contains-ascending}
use Rattle.hm_book_cards.specs.Cards.{Shown, IsSound, IsCard, texts_at, no_texts}
use Rattle.hm_book_cards.proofs.Laws.{card_texts}
use Rattle.hm_book_cards.proofs.CardTrees.{suit_edges, suit_sound, found_sound}
use Rattle.hm_lines_cards.specs.Lines.{Line, AreProperties, IsLine}
use Rattle.hm_lines_cards.specs.Rewriting.{rewritten}
use Rattle.hm_lines_cards.proofs.Texts.{none_there}
use Rattle.hm_lines_cards.proofs.LinesAgain.{utf8_again}

module _ (properties : Shown) (are : AreProperties properties) (card : Tree) (is_card : IsCard properties card) where
  -- the texts of a card are UTF-8, below each name
  sound : (k : Name) → IsSound (texts_at k card)
  sound k =
      let edges = suit_edges properties is_card.texts is_card.suit are.names in
      let all = suit_sound properties is_card.texts is_card.suit in
      subst IsSound (sym (ap (texts_at k) is_card.is ∙ card_texts is_card.texts edges all k)) (go (find name_cmp k is_card.texts) refl)
    where
      go : (o : Option (FinSet name_cmp)) → find name_cmp k is_card.texts ≡ o → IsSound (unwrap_or o no_texts)
      go None e = λ n there. absurd (both_ways _ (none_there n) there)
      go (Some set) e = found_sound k is_card.texts (suit_sound properties is_card.texts is_card.suit) set e

  -- what is rewritten of lines that are UTF-8 is UTF-8
  pub rewritten_utf8 : (lines : List Line) → All IsLine lines → All (λ (l : Line). IsUtf8 l.0) lines → All (λ (l : Line). IsUtf8 l.0) (rewritten properties card lines)
  rewritten_utf8 lines is text =
      utf8_again properties are card lines is text
      (λ k i t lt.
      sound k (get_or (ascending (texts_at k card)) i t)
      (contains-ascending (texts_at k card) i (get_or (ascending (texts_at k card)) i t) (slice_get-get_or (ascending (texts_at k card)) i t lt)))
