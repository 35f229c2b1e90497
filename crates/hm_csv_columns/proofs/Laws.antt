-- A record that is made for a card shows it, and a record that is to show its own card stays.
use Rattle.std.proofs.Common.{◌≡◌, ℕ, zero, suc, ◌<◌, ◌+◌, Bool, true, false, cond, List, [], ◌∷◌, length, get_or, map, slice_get, Option, Some, None, refl, sym, ap, ◌∙◌, arith}
use Rattle.std.specs.Prelude.{All, IsUtf8}
use Rattle.std.specs.Bool.{◌==◌}
use Rattle.std.specs.List.{find}
use Rattle.std.specs.Option.{unwrap_or}
use Rattle.std.proofs.lemmas.Bool.{eqb-true}
use Rattle.std.proofs.lemmas.List.Elements.{All-nil, All-cons}
use Rattle.hm_tree.specs.Names.{Name}
use Rattle.hm_tree.specs.Nodes.{Tree, edges_rise}
use Rattle.hm_book_cards.specs.Cards.{AllSuit, IsSound, IsCard, card_tree, texts_at, texts_of, no_texts}
use Rattle.hm_book_cards.proofs.Laws.{card_texts, card_again}
use Rattle.hm_book_cards.proofs.CardTrees.{suit_edges, suit_sound}
use Rattle.hm_csv_columns.specs.declared.column.Column.{Column}
use Rattle.hm_csv_columns.specs.Fields.{texts_shown, field_for}
use Rattle.hm_csv_columns.specs.Records.{Fields, AreColumns, shown_by, texts_by, card_of, column_at, field_in, rewritten_from, rewritten}
use Rattle.hm_csv_columns.proofs.FieldLaws.{field_shows, field_stays, field_text, texts_suit}
use Rattle.hm_tree.proofs.Sorted.{found_in_order}

-- ---- field by field

pub got : (columns : List Column) (card : Tree) (place : ℕ) (row : Fields) (j : ℕ) → j < length row
    → get_or (rewritten_from columns card place row) j [] ≡ field_in (column_at columns (place + j)) card (get_or row j [])
got columns card place [] j lt = absurd (omega (arith, lt))
got columns card place (field ∷ fields) zero lt = let e : place ≡ place + 0 = omega arith in ap (λ i. field_in (column_at columns i) card field) e
got columns card place (field ∷ fields) (suc j) lt =
    let e : (place + 1) + j ≡ place + suc j = omega arith in
    got columns card (place + 1) fields j (omega (arith, lt)) ∙ ap (λ i. field_in (column_at columns i) card (get_or fields j [])) e

pub got_here : (columns : List Column) (card : Tree) (row : Fields) (j : ℕ) → j < length row
    → get_or (rewritten columns card row) j [] ≡ field_in (column_at columns j) card (get_or row j [])
got_here columns card row j lt = let e : 0 + j ≡ j = omega arith in got columns card 0 row j lt ∙ ap (λ i. field_in (column_at columns i) card (get_or row j [])) e

pub rewritten_long : (columns : List Column) (card : Tree) (place : ℕ) (row : Fields) → length (rewritten_from columns card place row) ≡ length row
rewritten_long columns card place [] = refl
rewritten_long columns card place (field ∷ fields) = ap suc (rewritten_long columns card (place + 1) fields)

-- ---- what is made shows the card

module _ (columns : List Column) (card : Tree) (row : Fields) where
  shows_each : (cs : List Column) → All (λ (c : Column). c.place < length row) cs → All (λ (c : Column). column_at columns c.place ≡ Some c) cs
      → AllSuit (shown_by cs) (texts_of (shown_by cs) card) → texts_by cs (rewritten columns card row) ≡ texts_of (shown_by cs) card
  shows_each [] within apart suit = refl
  shows_each (c ∷ cs) within apart suit =
      let field = got_here columns card row c.place (within 0 c (omega arith)) ∙ ap (λ o. field_in o card (get_or row c.place [])) (apart 0 c (omega arith)) in
      let here : texts_shown c.many (get_or (rewritten columns card row) c.place []) ≡ texts_at c.name card =
      ap (texts_shown c.many) field ∙ field_shows c.many (get_or row c.place []) (texts_at c.name card) suit.0.1 in
      (λ i. (c.name, here i) ∷ shows_each cs (λ k d lt. within (suc k) d (omega (arith, lt))) (λ k d lt. apart (suc k) d (omega (arith, lt))) suit.1 i)

  pub record_shows : (key : ℕ) → AreColumns columns key (length row) → IsCard (shown_by columns) card → card_of columns (rewritten columns card row) ≡ card
  record_shows key are is =
      let again = card_again (shown_by columns) card are.names is in
      ap card_tree (shows_each columns are.within are.apart again.0) ∙ sym again.1

-- ---- a record stays

-- what a search finds stands in the list, and passes the test
found_there : {X : Type 0} (p : X → Bool) (xs : List X) (x : X) → find p xs ≡ Some x → (i : ℕ) × (slice_get xs i ≡ Some x) × (p x ≡ true)
found_there p [] x e = let bad : ⊥ = cc in absurd bad
found_there p (y ∷ ys) x e = go (p y) refl e (found_there p ys x)
  where
    go : (b : Bool) → p y ≡ b → cond b (Some y) (find p ys) ≡ Some x
        → (find p ys ≡ Some x → (i : ℕ) × (slice_get ys i ≡ Some x) × (p x ≡ true)) → (i : ℕ) × (slice_get (y ∷ ys) i ≡ Some x) × (p x ≡ true)
    go true t e rest = let same : y ≡ x = cc in (0, e, ap p (sym same) ∙ t)
    go false t e rest = let later = rest e in (suc later.0, later.1, later.2)

at_map : {X Y : Type 0} (f : X → Y) (xs : List X) (i : ℕ) (x : X) → slice_get xs i ≡ Some x → slice_get (map f xs) i ≡ Some (f x)
at_map f [] i x e = let bad : ⊥ = cc in absurd bad
at_map f (y ∷ ys) zero x e = let same : y ≡ x = cc in ap (λ z. Some (f z)) same
at_map f (y ∷ ys) (suc i) x e = at_map f ys i x e

stays_from : (columns : List Column) (card : Tree) (place : ℕ) (row : Fields)
    → ((j : ℕ) → j < length row → field_in (column_at columns (place + j)) card (get_or row j []) ≡ get_or row j []) → rewritten_from columns card place row ≡ row
stays_from columns card place [] each = refl
stays_from columns card place (field ∷ fields) each =
    let e : place ≡ place + 0 = omega arith in
    let here : field_in (column_at columns place) card field ≡ field = ap (λ i. field_in (column_at columns i) card field) e ∙ each 0 (omega arith) in
    (λ i. here i ∷ stays_from columns card (place + 1) fields (λ j lt.
    let s : (place + 1) + j ≡ place + suc j = omega arith in
    ap (λ i. field_in (column_at columns i) card (get_or fields j [])) s ∙ each (suc j) (omega (arith, lt))) i)

module _ (columns : List Column) (row : Fields) (text : All IsUtf8 row) where
  suit_by : (cs : List Column) → All (λ (c : Column). c.place < length row) cs → AllSuit (shown_by cs) (texts_by cs row)
  suit_by [] within = tt
  suit_by (c ∷ cs) within =
      ((refl, texts_suit c.many (get_or row c.place []) (text c.place [] (within 0 c (omega arith)))), suit_by cs (λ k d lt. within (suc k) d (omega (arith, lt))))

  -- the card that a record shows is one
  pub record_card : (key : ℕ) → AreColumns columns key (length row) → IsCard (shown_by columns) (card_of columns row)
  record_card key are = record { texts = texts_by columns row; suit = suit_by columns are.within; is = refl }

  -- it has the texts of each column
  column_texts : (key : ℕ) → AreColumns columns key (length row) → (i : ℕ) (c : Column) → slice_get columns i ≡ Some c
      → texts_at c.name (card_of columns row) ≡ texts_shown c.many (get_or row c.place [])
  column_texts key are i c at =
      let suit = suit_by columns are.within in
      let edges = suit_edges (shown_by columns) (texts_by columns row) suit are.names in
      card_texts (texts_by columns row) edges (suit_sound (shown_by columns) (texts_by columns row) suit) c.name
      ∙ ap (λ o. unwrap_or o no_texts) (found_in_order (texts_by columns row) (edges_rise (texts_by columns row) edges) i (c.name, texts_shown c.many (get_or row c.place []))
      (at_map (λ (c : Column). (c.name, texts_shown c.many (get_or row c.place []))) columns i c at))

  pub record_stays : (key : ℕ) → AreColumns columns key (length row) → rewritten columns (card_of columns row) row ≡ row
  record_stays key are = stays_from columns (card_of columns row) 0 row each
    where
      here : (j : ℕ) (o : Option Column) → column_at columns j ≡ o → field_in o (card_of columns row) (get_or row j []) ≡ get_or row j []
      here j None e = refl
      here j (Some c) e =
          let there = found_there (λ (c : Column). c.place == j) columns c e in
          let place : c.place ≡ j = eqb-true c.place j there.2 in
          ap (λ set. field_for c.many (get_or row j []) set) (column_texts key are there.0 c there.1 ∙ ap (λ i. texts_shown c.many (get_or row i [])) place)
          ∙ field_stays c.many (get_or row j [])

      each : (j : ℕ) → j < length row → field_in (column_at columns (0 + j)) (card_of columns row) (get_or row j []) ≡ get_or row j []
      each j lt = let e : 0 + j ≡ j = omega arith in ap (λ i. field_in (column_at columns i) (card_of columns row) (get_or row j [])) e ∙ here j (column_at columns j) refl

  -- ---- what is made is UTF-8

  pub rewritten_text : (card : Tree) (place : ℕ) → ((k : Name) → IsSound (texts_at k card)) → All IsUtf8 (rewritten_from columns card place row)
  rewritten_text card place sound = each place row text
    where
      one : (o : Option Column) (field : List ℕ) → IsUtf8 field → IsUtf8 (field_in o card field)
      one None field text = text
      one (Some c) field text = field_text c.many field (texts_at c.name card) text (sound c.name)

      each : (place : ℕ) (fields : Fields) → All IsUtf8 fields → All IsUtf8 (rewritten_from columns card place fields)
      each place [] all = All-nil IsUtf8
      each place (field ∷ fields) all =
          All-cons IsUtf8 (field_in (column_at columns place) card field) (rewritten_from columns card (place + 1) fields)
          (one (column_at columns place) field (all 0 field (omega arith))) (each (place + 1) fields (λ k d lt. all (suc k) d (omega (arith, lt))))

-- the key stays
pub rewritten_key : (columns : List Column) (card : Tree) (row : Fields) (key : ℕ) → AreColumns columns key (length row)
    → get_or (rewritten columns card row) key [] ≡ get_or row key []
rewritten_key columns card row key are =
    got_here columns card row key are.key_within ∙ ap (λ o. field_in o card (get_or row key [])) are.key_apart
