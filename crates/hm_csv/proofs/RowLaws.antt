-- Records of a table as items of a file: how one is written for a card, and how all are written for a tree.
use Rattle.std.proofs.Common.{◌≡◌, ℕ, suc, ◌<◌, Bool, true, false, cond, T, List, [], ◌∷◌, length, get_or, map, Option, Some, None, refl, sym, ap, ◌∙◌, subst, arith}
use Rattle.std.specs.Prelude.{All, IfSome, IsUtf8}
use Rattle.std.specs.Bool.{◌==◌}
use Rattle.std.specs.Option.{unwrap_or}
use Rattle.std.specs.FinMap as map
use Rattle.std.specs.FinSet.{FinSet, contains-from_list}
use Rattle.std.specs.List.{range_with_len}
use Rattle.std.proofs.lemmas.List.Elements.{All-nil, All-cons}
use Rattle.std.proofs.lemmas.List.FromFn.{length-map-range_with_len, get_or-map-range_with_len}
use Rattle.std.proofs.lemmas.Bool.Decides.{nat_tests}
use Rattle.std.proofs.lemmas.Str.{IsUtf8-nil}
use Rattle.hm_tree.specs.Names.{Name, name_cmp}
use Rattle.hm_tree.specs.Classes.{IsFilled}
use Rattle.hm_tree.specs.Cleaned.{cleaned}
use Rattle.hm_tree.specs.Nodes.{Tree, edges, are_edges}
use Rattle.hm_tree.proofs.Sorted.{name_total, name_one}
use Rattle.hm_schema.specs.Values.{OptionsValue}
use Rattle.hm_book_items.specs.Items.{IsTree, IsGrouped, IsRewritten, Each, IsWriting, seen, written}
use Rattle.hm_book_items.proofs.Fitting.{AllFit, put_get_fit, sound_fit, get_put_fit}
use Rattle.hm_book_items.specs.ItemTrees.{AreLists, IsItemTree}
use Rattle.hm_csv_records.specs.Rows.{Fields}
use Rattle.hm_book_cards.specs.Cards.{Shown, IsCard, IsSound, AreSound, texts_at, no_texts}
use Rattle.hm_book_cards.proofs.CardTrees.{card_texts, found_sound, suit_edges, suit_sound}
use Rattle.hm_csv_columns.specs.Records.{AreColumns, shown_by, card_of, blank}
use Rattle.hm_csv_columns.proofs.Laws.{record_shows, record_stays, rewritten_long, rewritten_text, rewritten_key}
use Rattle.hm_csv.specs.Options.{shown_of}
use Rattle.hm_csv.specs.Tables.{key_place, columns_of, column_for, key_of, HasKey, item_of, items_of}
use Rattle.hm_csv.specs.Writing.{base, new_row, keyed, Slots, row_for}

-- the names of the columns are those that are shown
shown_again : (header : Fields) (shown : Shown) → shown_by (map (column_for header) shown) ≡ shown
shown_again header [] = refl
shown_again header (s ∷ shown) = ap (λ l. s ∷ l) (shown_again header shown)

pub shown_is : (o : OptionsValue) (header : Fields) → shown_by (columns_of o header) ≡ shown_of o
shown_is o header = shown_again header (shown_of o)

-- the texts of a card are UTF-8, below any name
card_sound : (shown : Shown) (t : Tree) → T (are_edges shown) → IsCard shown t → (k : Name) → IsSound (texts_at k t)
card_sound shown t are card k =
    let sound = suit_sound shown card.texts card.suit in
    subst IsSound (sym (ap (texts_at k) card.is ∙ card_texts card.texts (suit_edges shown card.texts card.suit are) sound k))
    (go sound (map.find name_cmp k card.texts) refl)
  where
    none_sound : IsSound no_texts
    none_sound q h = let none = sym (contains-from_list name_total [] q) ∙ h in let bad : ⊥ = cc in absurd bad

    go : AreSound card.texts → (found : Option (FinSet name_cmp)) → map.find name_cmp k card.texts ≡ found → IsSound (unwrap_or found no_texts)
    go sound None e = none_sound
    go sound (Some set) e = found_sound k card.texts sound set e

-- ---- blank records

module _ (place : ℕ) (key : Name) (count : ℕ) where
  pub blank_long : length (blank place key count) ≡ count
  blank_long = length-map-range_with_len (λ j. cond (j == place) key []) 0 count

  pub blank_key : place < count → get_or (blank place key count) place [] ≡ key
  blank_key lt =
      let same : (place == place) ≡ true = grind (arith, nat_tests) in
      get_or-map-range_with_len (λ j. cond (j == place) key []) 0 count place place [] lt (omega arith)
      ∙ ap (λ b. cond {A = Name} b key []) same

  pub blank_text : IsUtf8 key → All IsUtf8 (blank place key count)
  blank_text text = each (range_with_len 0 count)
    where
      one : (b : Bool) → IsUtf8 (cond {A = Name} b key [])
      one true = text
      one false = IsUtf8-nil

      each : (js : List ℕ) → All IsUtf8 (map (λ j. cond {A = Name} (j == place) key []) js)
      each [] = All-nil IsUtf8
      each (j ∷ js) = All-cons IsUtf8 (cond {A = Name} (j == place) key []) (map (λ j. cond {A = Name} (j == place) key []) js) (one (j == place)) (each js)

-- ---- one record

module _ (o : OptionsValue) (header : Fields) (are : AreColumns (columns_of o header) (key_place o header) (length header)) where
  -- what stands in a tree below a key, and what stands in a file under one
  pub record FitsTree (k : Name) (card : Tree) : Type 0 where
    pub text : IsUtf8 k
    pub filled : IsFilled k
    pub card_is : IsCard (shown_of o) card

  pub record FitsFile (k : Name) (row : Fields) : Type 0 where
    pub long : length row ≡ length header
    pub key_is : key_of o header row ≡ k
    pub filled : IsFilled k
    pub text : All IsUtf8 row

  abbrev show : Fields → Tree
  show row = card_of (columns_of o header) row

  abbrev write : Name → Option Fields → Tree → Fields
  write k old card = new_row o header k old card

  base_long : (k : Name) (old : Option Fields) → IfSome old (FitsFile k) → length (base o header k old) ≡ length header
  base_long k None q = blank_long (key_place o header) k (length header)
  base_long k (Some row) q = q.long

  base_key : (k : Name) (old : Option Fields) → IsFilled k → IfSome old (FitsFile k) → cleaned (get_or (base o header k old) (key_place o header) []) ≡ k
  base_key k None filled q = ap cleaned (blank_key (key_place o header) k (length header) are.key_within) ∙ filled.clean
  base_key k (Some row) filled q = q.key_is

  base_text : (k : Name) (old : Option Fields) → IsUtf8 k → IfSome old (FitsFile k) → All IsUtf8 (base o header k old)
  base_text k None text q = blank_text (key_place o header) k (length header) text
  base_text k (Some row) text q = q.text

  columns_in : (n : ℕ) → n ≡ length header → AreColumns (columns_of o header) (key_place o header) n
  columns_in n e = subst (AreColumns (columns_of o header) (key_place o header)) (sym e) are

  pub card_by : (card : Tree) → IsCard (shown_of o) card → IsCard (shown_by (columns_of o header)) card
  card_by card is = subst (λ (s : Shown). IsCard s card) (sym (shown_is o header)) is

  pub writing : IsWriting name_cmp FitsTree FitsFile show write
  writing = record {
    shows = λ k old card p q.
        record_shows (columns_of o header) card (base o header k old) (key_place o header) (columns_in _ (base_long k old q)) (card_by card p.card_is);
    stays = λ k row q. record_stays (columns_of o header) row q.text (key_place o header) (columns_in _ q.long);
    sound = λ k old card p q.
        let long = base_long k old q in
        record {
          long = rewritten_long (columns_of o header) card 0 (base o header k old) ∙ long;
          key_is = ap cleaned (rewritten_key (columns_of o header) card (base o header k old) (key_place o header) (columns_in _ long)) ∙ base_key k old p.filled q;
          filled = p.filled;
          text = rewritten_text (columns_of o header) (base o header k old) (base_text k old p.text q) card 0
              (card_sound (shown_by (columns_of o header)) card are.names (card_by card p.card_is));
        };
  }

  -- ---- all records

  stand : (others : List Fields) → All (λ row. length row ≡ length header) others → All (All IsUtf8) others → All (HasKey o header) others
      → Each name_cmp (λ x. FitsFile x.0 x.1) (keyed o header others)
  stand [] long text has = tt
  stand (row ∷ others) long text has = (
    record { long = long 0 row (omega arith); key_is = refl; filled = has 0 row (omega arith); text = text 0 row (omega arith) },
    stand others (λ k d lt. long (suc k) d (omega (arith, lt))) (λ k d lt. text (suc k) d (omega (arith, lt))) (λ k d lt. has (suc k) d (omega (arith, lt))),
  )

  -- the records of slots, with their keys
  written_rows : (slots : Slots) → map (λ (x : Name × Fields). x.1) (written name_cmp write slots) ≡ map (row_for o header) slots
  written_rows [] = refl
  written_rows (s ∷ slots) = ap (λ l. row_for o header s ∷ l) (written_rows slots)

  keyed_rows : (others : List Fields) → map (λ (x : Name × Fields). x.1) (keyed o header others) ≡ others
  keyed_rows [] = refl
  keyed_rows (row ∷ others) = ap (λ l. row ∷ l) (keyed_rows others)

  -- items whose keys are those of their records
  items_again : (items : List (Name × Fields)) → Each name_cmp (λ x. FitsFile x.0 x.1) items
      → seen name_cmp show items ≡ items_of o header (map (λ (x : Name × Fields). x.1) items)
  items_again [] fit = refl
  items_again (x ∷ items) fit = λ i. (sym fit.0.key_is i, show x.1) ∷ items_again items fit.1 i

  seen_keyed : (others : List Fields) → seen name_cmp show (keyed o header others) ≡ items_of o header others
  seen_keyed [] = refl
  seen_keyed (row ∷ others) = ap (λ l. item_of o header row ∷ l) (seen_keyed others)

  -- records that fit
  pub record AreRows (rows : List Fields) : Type 0 where
    pub long : All (λ row. length row ≡ length header) rows
    pub text : All (All IsUtf8) rows
    pub has : All (HasKey o header) rows

  rows_fit : (items : List (Name × Fields)) → Each name_cmp (λ x. FitsFile x.0 x.1) items → AreRows (map (λ (x : Name × Fields). x.1) items)
  rows_fit [] fit = record { long = All-nil (λ (row : Fields). length row ≡ length header); text = All-nil (All IsUtf8); has = All-nil (HasKey o header) }
  rows_fit (x ∷ items) fit =
      let rest = rows_fit items fit.1 in
      let rows = map (λ (x : Name × Fields). x.1) items in
      record {
        long = All-cons (λ (row : Fields). length row ≡ length header) x.1 rows fit.0.long rest.long;
        text = All-cons (All IsUtf8) x.1 rows fit.0.text rest.text;
        has = All-cons (HasKey o header) x.1 rows (subst IsFilled (sym fit.0.key_is) fit.0.filled) rest.has;
      }

  module _ (others : List Fields) (old : AreRows others) where
    pub standing : Each name_cmp (λ x. FitsFile x.0 x.1) (keyed o header others)
    standing = stand others old.long old.text old.has

    module _ (t : Tree) (lists : List (Name × List Tree)) (below : AreLists (edges t) lists) (tree_is : IsTree name_cmp lists)
        (fits : AllFit name_cmp name_total name_one FitsTree FitsFile lists) (slots : Slots) (made : IsRewritten name_cmp (keyed o header others) lists slots) where
      new_fit : Each name_cmp (λ x. FitsFile x.0 x.1) (written name_cmp write slots)
      new_fit = sound_fit name_cmp name_total name_one FitsTree FitsFile show write writing (keyed o header others) lists slots standing made fits

      -- the new records fit, and they are those of the tree
      pub new_rows : AreRows (map (row_for o header) slots)
      new_rows = subst AreRows (written_rows slots) (rows_fit (written name_cmp write slots) new_fit)

      pub new_tree : IsItemTree (items_of o header (map (row_for o header) slots)) t
      new_tree =
          let grouped = put_get_fit name_cmp name_total name_one FitsTree FitsFile show write writing (keyed o header others) lists slots standing made tree_is fits in
          let items = items_again (written name_cmp write slots) new_fit ∙ ap (items_of o header) (written_rows slots) in
          record { lists = lists; grouped = subst (λ (l : List (Name × Tree)). IsGrouped name_cmp l lists) items grouped; below = below }

    -- where the tree is that of the records, these stay
    pub rows_stay : (t : Tree) (is : IsItemTree (items_of o header others) t) (slots : Slots) → IsRewritten name_cmp (keyed o header others) is.lists slots
        → map (row_for o header) slots ≡ others
    rows_stay t is slots made =
        let grouped = subst (λ (l : List (Name × Tree)). IsGrouped name_cmp l is.lists) (sym (seen_keyed others)) is.grouped in
        sym (written_rows slots)
        ∙ ap (map (λ (x : Name × Fields). x.1))
        (get_put_fit name_cmp name_total name_one FitsTree FitsFile show write writing (keyed o header others) is.lists slots standing made grouped)
        ∙ keyed_rows others
