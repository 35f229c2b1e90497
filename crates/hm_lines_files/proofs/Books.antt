-- What is read of a file is an address book.
use Rattle.std.proofs.Common.{◌≡◌, ◌≢◌, ℕ, true, false, ◌||◌, List, [], ◌∷◌, get_or, refl, ap, ◌∙◌}
use Rattle.std.specs.Prelude.{All, IsTrue, IsUtf8}
use Rattle.std.specs.List.{list_any}
use Rattle.std.specs.Ordering.{eq_by_cmp, is_eq}
use Rattle.std.specs.FinSet.{contains, from_list, contains-from_list}
use Rattle.std.proofs.lemmas.Cmp.{tied_itself}
use Rattle.std.proofs.lemmas.List.Elements.{All-nil, All-cons, All-map}
use Rattle.hm_tree.specs.Names.{Name, name_cmp}
use Rattle.hm_tree.specs.Nodes.{Tree, edges_cons}
use Rattle.hm_tree.specs.Classes.{IsFilled}
use Rattle.hm_tree.proofs.Sorted.{name_total}
use Rattle.hm_tree.proofs.Texts.{text_test}
use Rattle.hm_schema.specs.Values.{OptionsValue}
use Rattle.hm_lines.specs.Content.{IsWord}
use Rattle.hm_book_cards.specs.Cards.{Shown, IsCard}
use Rattle.hm_book_cards.specs.Books as books
use Rattle.hm_book_cards.proofs.Laws.{items_book, card_again}
use Rattle.hm_lines_cards.specs.Lines.{Line, IsCapital, AreProperties, IsLine, AreFew, texts_of, set_of, card_of}
use Rattle.hm_lines_cards.specs.Rewriting.{Property}
use Rattle.hm_lines_cards.proofs.Laws.{shown_card, own_texts}
use Rattle.hm_lines_files.specs.Components.{Component, Layout, components, HasKey, first_name, key_of, item_of}
use Rattle.hm_lines_files.specs.Forms.{Form, shown_of}
use Rattle.hm_lines_files.specs.Files.{IsFile, IsBook}
use Rattle.hm_lines_files.specs.FormLaws.{IsForm}
use Rattle.hm_lines_files.proofs.ShownProperties.{shown_properties}
use Rattle.hm_lines_files.proofs.KeyLines.{word_text}
use Rattle.hm_lines_files.proofs.PieceLines.{in_components, file_lines}

-- ---- the key of a component isn't of spaces alone

module _ (key : Name) (word : IsWord key) (capitals : All IsCapital key) (lines : List Line) (are : All IsLine lines) (text : All (λ (l : Line). IsUtf8 l.0) lines) where
  -- as if the key were shown
  abbrev alone : Shown
  alone = (key, true) ∷ []

  property : AreProperties alone
  property = record {
    names = edges_cons (key, true) [] (text_test key (word_text key word)) tt tt;
    words = All-cons (λ (p : Property). IsWord p.0) (key, true) [] word (All-nil (λ (p : Property). IsWord p.0));
    capitals = All-cons (λ (p : Property). All IsCapital p.0) (key, true) [] capitals (All-nil (λ (p : Property). All IsCapital p.0));
  }

  many : AreFew alone lines
  many = λ i d lt e. let no : ⊥ = one i d lt e in absurd no
    where
      one : All (λ (p : Property). p.1 ≡ false → ⊥) alone
      one = All-cons (λ (p : Property). p.1 ≡ false → ⊥) (key, true) [] (λ e. let no : ⊥ = cc in no) (All-nil (λ (p : Property). p.1 ≡ false → ⊥))

  all_filled : (k : Name) → IsTrue (contains (set_of key lines) k) → IsFilled k
  all_filled k there =
      let card = shown_card lines are text alone property many in
      let suit = (card_again alone (card_of alone lines) property.names card).0 in
      let same = own_texts lines are text alone property many 0 (key, true) refl in
      suit.0.1.filled k (ap (λ texts. contains texts k) same ∙ there)

  first_filled : (names : List Name) → names ≢ [] → ((k : Name) → IsTrue (contains (from_list {R = name_cmp} names) k) → IsFilled k) → IsFilled (first_name names)
  first_filled [] some all = absurd (some refl)
  first_filled (k ∷ ks) some all =
      all k (contains-from_list name_total (k ∷ ks) k ∙ ap (λ b. b || list_any (eq_by_cmp name_cmp k) ks) (ap is_eq (tied_itself name_total k)))

  pub key_filled : texts_of key lines ≢ [] → IsFilled (first_name (texts_of key lines))
  key_filled some = first_filled (texts_of key lines) some all_filled

-- ---- files

module _ (f : Form) (law : IsForm f) (o : OptionsValue) (bytes : List ℕ) (l : Layout) (file : IsFile f o bytes l) where
  texts : All (λ c. All (λ (line : Line). IsUtf8 line.0) c.lines) (components l)
  texts = in_components IsUtf8 l (λ k d lt. (file_lines f law o bytes l file k d lt).1)

  fit : All (f.fits o) (components l)
  fit = law.fit o l file.are.has

  pub read_keys : All (HasKey f.template.key) (components l) → All (λ c. IsFilled (key_of f.template.key c)) (components l)
  read_keys keyed = λ i d lt.
      let c = get_or (components l) i d in
      key_filled f.template.key law.word law.capitals c.lines (law.lines o c (fit i d lt)) (texts i d lt) (keyed i d lt)

  pub read_cards : All (λ (c : Component). IsCard (shown_of f o) (card_of (shown_of f o) c.lines)) (components l)
  read_cards = λ i d lt.
      let c = get_or (components l) i d in
      shown_card c.lines (law.lines o c (fit i d lt)) (texts i d lt) (shown_of f o) (shown_properties f.properties o law.properties) (law.few o c (fit i d lt))

pub read_book : (f : Form) → IsForm f → (o : OptionsValue) (bytes : List ℕ) (t : Tree) → IsBook f o bytes t → books.IsBook (shown_of f o) t
read_book f law o bytes t h =
    let cs = components h.layout in
    let each = item_of f.template.key (shown_of f o) in
    items_book (shown_of f o) _ t h.tree
    (All-map (λ (x : Name × Tree). IsFilled x.0) each cs (read_keys f law o bytes h.layout h.file h.keyed))
    (All-map (λ (x : Name × Tree). IsCard (shown_of f o) x.1) each cs (read_cards f law o bytes h.layout h.file))
