-- What stays of a record that is rewritten for a card.
use Rattle.std.proofs.Common.{◌≡◌, ◌≢◌, ◌⊎◌, inl, inr, ℕ, ◌<◌, Bool, true, false, cond, List, [], ◌∷◌, ◌++◌, length, get_or, filter, Option, Some, None, refl, sym, ap, ◌∙◌, subst}
use Rattle.std.specs.Bool.{◌==◌}
use Rattle.std.specs.FinSet.{FinSet}
use Rattle.std.proofs.lemmas.Option.{none-some, same_Some}
use Rattle.hm_tree.specs.Names.{name_cmp}
use Rattle.hm_tree.specs.Nodes.{Tree}
use Rattle.hm_tree.specs.Sets.{ascending, new_names}
use Rattle.hm_csv_fields.specs.Pieces.{pieces, written}
use Rattle.hm_csv_fields.specs.Texts.{texts, stays as stays_in, new_pieces}
use Rattle.hm_csv_fields.proofs.Laws.{written_pieces, rewritten_texts}
use Rattle.hm_book_cards.specs.Cards.{Suits, AllSuit, IsCard, texts_at, texts_of}
use Rattle.hm_book_cards.proofs.Laws.{card_again}
use Rattle.hm_csv_columns.specs.declared.column.Column.{Column}
use Rattle.hm_csv_columns.specs.Fields.{texts_shown, same_texts, made, field_for}
use Rattle.hm_csv_columns.specs.Records.{Fields, AreColumns, shown_by, column_at, field_in, rewritten}
use Rattle.hm_csv_columns.specs.Kept.{is_still, ArePieces, in_front, blank, IsField, stays, changed, IsKept}
use Rattle.hm_csv_columns.proofs.FieldLaws.{field_shows}
use Rattle.hm_csv_columns.proofs.SameNames.{itself}
use Rattle.hm_csv_columns.proofs.Laws.{got_here, rewritten_long}

-- ---- pieces that are written

pieces_kept : (old new : List ℕ) (kept more : List (List ℕ)) → filter (is_still new) (pieces old) ≡ kept → new ≡ written (kept ++ more) → ArePieces old new
pieces_kept old new kept more are is = by (written_pieces (kept ++ more))
  where
    go : (ks : List (List ℕ)) → filter (is_still new) (pieces old) ≡ ks → ks ++ more ≡ [] ∷ [] → new ≡ [] → ArePieces old new
    go [] are e none = in_front [] (ap pieces none ∙ ap (λ ks. ks ++ []) (sym are))
    go (k ∷ []) are e none = let first : k ≡ [] = cc in blank (are ∙ ap (λ (q : List ℕ). q ∷ []) first) none
    go (k ∷ l ∷ ks) are e none = let bad : ⊥ = cc in absurd bad

    by : (pieces (written (kept ++ more)) ≡ kept ++ more) ⊎ ((kept ++ more ≡ [] ∷ []) × (written (kept ++ more) ≡ [])) → ArePieces old new
    by (inl h) = in_front more (ap pieces is ∙ h ∙ ap (λ ps. ps ++ more) (sym are))
    by (inr (alone, none)) = go kept are alone (is ∙ none)

-- ---- a field

field_kept : (c : Column) (field : List ℕ) (set : FinSet name_cmp) → Suits c.many set → IsField (Some c) field (field_for c.many field set)
field_kept c field set suits = go (same_texts (texts_shown c.many field) set) refl
  where
    shows : same_texts (texts_shown c.many field) set ≡ false → texts_shown c.many (made c.many field set) ≡ set
    shows e = ap (λ b. texts_shown c.many (cond b field (made c.many field set))) (sym e) ∙ field_shows c.many field set suits

    apart : same_texts (texts_shown c.many field) set ≡ false → texts_shown c.many (made c.many field set) ≢ texts_shown c.many field
    apart e same =
        let t : same_texts (texts_shown c.many field) set ≡ true =
        ap (same_texts (texts_shown c.many field)) (sym (shows e) ∙ same) ∙ itself (ascending (texts_shown c.many field)) in
        let bad : ⊥ = cc in
        bad

    pieces_stay : c.many ≡ true → ArePieces field (made c.many field set)
    pieces_stay many =
        subst (λ b. ArePieces field (made b field set)) (sym many)
        (pieces_kept field (written (new_pieces field set)) (filter (stays_in set) (pieces field)) (new_names (texts field) set)
        (ap (λ (s : FinSet name_cmp). filter (stays_in s) (pieces field)) (rewritten_texts field set suits.filled)) refl)

    go : (b : Bool) → same_texts (texts_shown c.many field) set ≡ b → IsField (Some c) field (cond b field (made c.many field set))
    go true e = stays
    go false e = changed (apart e) pieces_stay

-- ---- a record

module _ (columns : List Column) (card : Tree) (row : Fields) where
  suit_found : (cs : List Column) → AllSuit (shown_by cs) (texts_of (shown_by cs) card) → (place : ℕ) (c : Column) → column_at cs place ≡ Some c → Suits c.many (texts_at c.name card)
  suit_found [] all place c e = absurd (none-some c e)
  suit_found (d ∷ cs) all place c e = go (d.place == place) e (suit_found cs all.1 place c)
    where
      go : (b : Bool) → cond b (Some d) (column_at cs place) ≡ Some c → (column_at cs place ≡ Some c → Suits c.many (texts_at c.name card)) → Suits c.many (texts_at c.name card)
      go true e rest = subst (λ (c : Column). Suits c.many (texts_at c.name card)) (same_Some d c e) all.0.1
      go false e rest = rest e

  pub row_kept : (key count : ℕ) → AreColumns columns key count → IsCard (shown_by columns) card → IsKept columns row (rewritten columns card row)
  row_kept key count are is = record { long = rewritten_long columns card 0 row; fields = each }
    where
      one : (place : ℕ) (field : List ℕ) (o : Option Column) → column_at columns place ≡ o → IsField o field (field_in o card field)
      one place field None e = stays
      one place field (Some c) e = field_kept c field (texts_at c.name card) (suit_found columns (card_again (shown_by columns) card are.names is).0 place c e)

      each : (place : ℕ) → place < length row → IsField (column_at columns place) (get_or row place []) (get_or (rewritten columns card row) place [])
      each place lt =
          subst (IsField (column_at columns place) (get_or row place [])) (sym (got_here columns card row place lt))
          (one place (get_or row place []) (column_at columns place) refl)
