-- The components of a file that is rewritten for a tree show it, and those of one whose tree stays are the same.
use Rattle.std.proofs.Common.{◌≡◌, List, [], ◌∷◌, ◌++◌, map, T, refl, sym, ap, ◌∙◌, subst, Option}
use Rattle.std.specs.Prelude.{All, IsUtf8}
use Rattle.std.specs.List.{flat_map}
use Rattle.std.proofs.lemmas.List.{append-nil, append_assoc, map-append}
use Rattle.std.proofs.lemmas.List.Elements.{All-nil, All-cons, All-head, All-tail}
use Rattle.std.proofs.lemmas.Str.{IsUtf8-from_is_utf8}
use Rattle.hm_tree.specs.Names.{Name, name_cmp}
use Rattle.hm_tree.specs.Classes.{IsFilled}
use Rattle.hm_tree.specs.Nodes.{Tree, edges, are_edges, edges_head, edges_tail}
use Rattle.hm_tree.specs.NodeLaws.{edges_are}
use Rattle.hm_tree.proofs.Sorted.{name_total, name_one}
use Rattle.hm_book_items.specs.Items.{Each, IsTree, IsGrouped, of_key, below_key, survivor, seen, written}
use Rattle.hm_book_items.proofs.ReadBack.{own_place, none_new}
use Rattle.hm_book_items.proofs.Fitting.{AllFit, put_get_fit, sound_fit}
use Rattle.hm_book_items.specs.ItemTrees.{AreLists, IsItemTree, Lists}
use Rattle.hm_book_items.proofs.Laws.{lists_once}
use Rattle.hm_book_cards.specs.Cards.{Shown, IsCard}
use Rattle.hm_book_cards.specs.Books.{IsBook}
use Rattle.hm_lines_cards.specs.Lines.{Line}
use Rattle.hm_lines_cards.specs.Lent.{plain}
use Rattle.hm_lines_files.specs.Components.{Bytes, Component, Piece, other, item, piece_lines, components_of, key_of, HasKey, item_of, items_of}
use Rattle.hm_lines_files.specs.Rewriting.{Template, component_for, keyed, items_for, remaining, rewritten_pieces}
use Rattle.hm_lines_files.specs.Renewed.{AreRenewed}
use Rattle.hm_lines_files.proofs.OneComponent.{IsText, IsKind, FitsTree, FitsFile, show, write, writing}
use Rattle.hm_lines_files.proofs.Renewed.{Slots, slots_for, new_components, renewed}
use Rattle.hm_facts.proofs.Booleans.{is_true}

-- ---- components and their lines

module _ (P : Bytes → Type 0) where
  pub all_front : (ls ms : List Bytes) → All P (ls ++ ms) → All P ls
  all_front [] ms h = All-nil P
  all_front (l ∷ ls) ms h = All-cons P l ls (All-head P l (ls ++ ms) h) (all_front ls ms (All-tail P l (ls ++ ms) h))

  pub all_back : (ls ms : List Bytes) → All P (ls ++ ms) → All P ms
  all_back [] ms h = h
  all_back (l ∷ ls) ms h = all_back ls ms (All-tail P l (ls ++ ms) h)

  pub unplain : (ls : List Line) → All P (plain ls) → All (λ (l : Line). P l.0) ls
  unplain [] h = All-nil (λ (l : Line). P l.0)
  unplain (l ∷ ls) h = All-cons (λ (l : Line). P l.0) l ls (All-head P l.0 (plain ls) h) (unplain ls (All-tail P l.0 (plain ls) h))

  -- what holds of all lines of a file holds of those of its components
  pub lines_of_components : (ps : List Piece) → All P (flat_map piece_lines ps) → All (λ (c : Component). All (λ (l : Line). P l.0) c.lines) (components_of ps)
  lines_of_components [] h = All-nil (λ (c : Component). All (λ (l : Line). P l.0) c.lines)
  lines_of_components (other line ∷ ps) h = lines_of_components ps (All-tail P line (flat_map piece_lines ps) h)
  lines_of_components (item c ∷ ps) h =
      let own = all_front (plain c.lines ++ c.end ∷ []) (flat_map piece_lines ps) h in
      All-cons (λ (c : Component). All (λ (l : Line). P l.0) c.lines) c (components_of ps) (unplain c.lines (all_front (plain c.lines) (c.end ∷ []) own))
      (lines_of_components ps (all_back (plain c.lines ++ c.end ∷ []) (flat_map piece_lines ps) h))

module _ (template : Template) (shown : Shown) (Fits : Component → Type 0) (is : IsKind template shown Fits) where
  abbrev In : Name → Tree → Type 0
  In = FitsTree template shown Fits is

  abbrev Stands : Name → Component → Type 0
  Stands = FitsFile template shown Fits is

  abbrev display : Component → Tree
  display = show template shown Fits is

  abbrev put : Name → Option Component → Tree → Component
  put = write template shown Fits is

  -- components that have keys and fit
  pub record AreSound (cs : List Component) : Type 0 where
    pub fit : All Fits cs
    pub has : All (HasKey template.key) cs
    pub text : All (λ (c : Component). All IsText c.lines) cs

  first_stands : (c : Component) (cs : List Component) → AreSound (c ∷ cs) → Stands (key_of template.key c) c
  first_stands c cs h = record {
    fits = All-head Fits c cs h.fit;
    has = All-head (HasKey template.key) c cs h.has;
    key_is = refl;
    text = All-head (λ (c : Component). All IsText c.lines) c cs h.text;
  }

  others_sound : (c : Component) (cs : List Component) → AreSound (c ∷ cs) → AreSound cs
  others_sound c cs h = record {
    fit = All-tail Fits c cs h.fit;
    has = All-tail (HasKey template.key) c cs h.has;
    text = All-tail (λ (c : Component). All IsText c.lines) c cs h.text;
  }

  stand : (cs : List Component) → AreSound cs → Each name_cmp (λ x. Stands x.0 x.1) (keyed template.key cs)
  stand [] h = tt
  stand (c ∷ cs) h = (first_stands c cs h, stand cs (others_sound c cs h))

  one_over : (before : List Component) (c : Component) (cs : List Component)
      → keyed template.key before ++ keyed template.key (c ∷ cs) ≡ keyed template.key (before ++ c ∷ []) ++ keyed template.key cs
  one_over before c cs =
      sym (append_assoc (keyed template.key before) (keyed template.key (c ∷ [])) (keyed template.key cs))
      ∙ ap (λ b. b ++ keyed template.key cs) (sym (map-append (λ c. (key_of template.key c, c)) before (c ∷ [])))

  -- the components of slots, with their keys
  written_components : (slots : Slots) → map (λ (x : Name × Component). x.1) (written name_cmp put slots) ≡ map (component_for template shown) slots
  written_components [] = refl
  written_components (s ∷ slots) = ap (λ l. component_for template shown s ∷ l) (written_components slots)

  keyed_components : (cs : List Component) → map (λ (x : Name × Component). x.1) (keyed template.key cs) ≡ cs
  keyed_components [] = refl
  keyed_components (c ∷ cs) = ap (λ l. c ∷ l) (keyed_components cs)

  -- items whose keys are those of their components
  items_again : (items : List (Name × Component)) → Each name_cmp (λ x. Stands x.0 x.1) items
      → seen name_cmp display items ≡ items_of template.key shown (map (λ (x : Name × Component). x.1) items)
  items_again [] fit = refl
  items_again (x ∷ items) fit = λ i. (sym fit.0.key_is i, display x.1) ∷ items_again items fit.1 i

  seen_keyed : (cs : List Component) → seen name_cmp display (keyed template.key cs) ≡ items_of template.key shown cs
  seen_keyed [] = refl
  seen_keyed (c ∷ cs) = ap (λ l. item_of template.key shown c ∷ l) (seen_keyed cs)

  sound_again : (items : List (Name × Component)) → Each name_cmp (λ x. Stands x.0 x.1) items → AreSound (map (λ (x : Name × Component). x.1) items)
  sound_again [] h = record { fit = All-nil Fits; has = All-nil (HasKey template.key); text = All-nil (λ (c : Component). All IsText c.lines) }
  sound_again (x ∷ items) h =
      let rest = sound_again items h.1 in
      let cs = map (λ (x : Name × Component). x.1) items in
      record {
        fit = All-cons Fits x.1 cs h.0.fits rest.fit;
        has = All-cons (HasKey template.key) x.1 cs h.0.has rest.has;
        text = All-cons (λ (c : Component). All IsText c.lines) x.1 cs h.0.text rest.text;
      }

  -- ---- what is to be written fits

  list_fits : (k : Name) (list : List Tree) → IsUtf8 k → IsFilled k → All (IsCard shown) list → Each name_cmp (In k) list
  list_fits k [] text filled cards = tt
  list_fits k (card ∷ list) text filled cards = (
    record { text = text; filled = filled; card_is = All-head (IsCard shown) card list cards },
    list_fits k list text filled (All-tail (IsCard shown) card list cards),
  )

  fits_all : (es : List (Name × Tree)) (lists : Lists) → T (are_edges es) → AreLists es lists → All (λ (l : Name × List Tree). IsFilled l.0) lists
      → All (λ (l : Name × List Tree). All (IsCard shown) l.1) lists → AllFit name_cmp name_total name_one In Stands lists
  fits_all es [] edges_h h keys cards = tt
  fits_all [] (l ∷ lists) edges_h h keys cards = absurd h
  fits_all (e ∷ es) (l ∷ lists) edges_h h keys cards =
      let text : IsUtf8 l.0 = subst IsUtf8 h.0.0 (IsUtf8-from_is_utf8 e.0 (is_true _ (edges_head e es edges_h))) in (
        list_fits l.0 l.1 text (All-head (λ (l : Name × List Tree). IsFilled l.0) l lists keys) (All-head (λ (l : Name × List Tree). All (IsCard shown) l.1) l lists cards),
        fits_all es lists (edges_tail e es edges_h) h.1 (All-tail (λ (l : Name × List Tree). IsFilled l.0) l lists keys)
            (All-tail (λ (l : Name × List Tree). All (IsCard shown) l.1) l lists cards),
      )

  same_lists : (t : Tree) (lists : Lists) → AreLists (edges t) lists → (book : IsBook shown t) → book.lists ≡ lists
  same_lists t lists below book = lists_once (edges t) book.lists lists book.below below

  pub book_keys : (t : Tree) (lists : Lists) → AreLists (edges t) lists → IsBook shown t → All (λ (l : Name × List Tree). IsFilled l.0) lists
  book_keys t lists below book = subst (λ (ls : Lists). All (λ (l : Name × List Tree). IsFilled l.0) ls) (same_lists t lists below book) book.keys

  pub book_cards : (t : Tree) (lists : Lists) → AreLists (edges t) lists → IsBook shown t → All (λ (l : Name × List Tree). All (IsCard shown) l.1) lists
  book_cards t lists below book = subst (λ (ls : Lists). All (λ (l : Name × List Tree). All (IsCard shown) l.1) ls) (same_lists t lists below book) book.cards

  pub fits_tree : (t : Tree) (lists : Lists) → AreLists (edges t) lists → IsBook shown t → Each name_cmp (λ l. Each name_cmp (In l.0) l.1) lists
  fits_tree t lists below book = fits_all (edges t) lists (edges_are t) below (book_keys t lists below book) (book_cards t lists below book)

  -- ---- pieces with sound components, and a tree

  module _ (ps : List Piece) (old : AreSound (components_of ps)) (t : Tree) (lists : Lists) (below : AreLists (edges t) lists) where
    abbrev cs : List Component
    cs = components_of ps

    abbrev slots : Slots
    slots = slots_for template shown lists cs

    abbrev new : List Piece
    new = rewritten_pieces template shown lists ps

    module _ (book : IsBook shown t) where
      keys : All (λ (l : Name × List Tree). IsFilled l.0) lists
      keys = book_keys t lists below book

      cards : All (λ (l : Name × List Tree). All (IsCard shown) l.1) lists
      cards = book_cards t lists below book

      rising : IsTree name_cmp lists
      rising = subst (IsTree name_cmp) (same_lists t lists below book) book.tree_is

      fits : AllFit name_cmp name_total name_one In Stands lists
      fits = fits_tree t lists below book

      all_new : Each name_cmp (λ x. Stands x.0 x.1) (written name_cmp put slots)
      all_new =
          sound_fit name_cmp name_total name_one In Stands display put (writing template shown Fits is) (keyed template.key cs) lists slots (stand cs old) refl fits

      these : map (λ (x : Name × Component). x.1) (written name_cmp put slots) ≡ components_of new
      these = written_components slots ∙ sym (new_components template shown lists ps)

      -- the pieces are renewed for the tree
      pub tree_renewed : AreRenewed Fits ps new
      tree_renewed = renewed template shown Fits is lists ps old.fit keys cards

      -- their components have keys and fit again, and are those of the tree
      pub new_sound : AreSound (components_of new)
      new_sound = subst AreSound these (sound_again (written name_cmp put slots) all_new)

      pub tree_again : IsItemTree (items_of template.key shown (components_of new)) t
      tree_again =
          let grouped = put_get_fit name_cmp name_total name_one In Stands display put (writing template shown Fits is) (keyed template.key cs) lists slots (stand cs old) refl rising fits in
          let items = items_again (written name_cmp put slots) all_new ∙ ap (items_of template.key shown) these in
          record { lists = lists; grouped = subst (λ (l : List (Name × Tree)). IsGrouped name_cmp l lists) items grouped; below = below }

    -- where the tree is that of the components, the pieces stay
    pub stays : IsItemTree (items_of template.key shown cs) t → new ≡ ps
    stays same =
        (λ i. stays_from [] ps old grouped.each i ++ items_for template shown (none_new name_cmp name_total name_one display (keyed template.key cs) lists grouped i))
        ∙ append-nil ps
      where
        grouped : IsGrouped name_cmp (seen name_cmp display (keyed template.key cs)) lists
        grouped =
            subst (λ (items : List (Name × Tree)). IsGrouped name_cmp items lists) (sym (seen_keyed cs))
            (subst (IsGrouped name_cmp (items_of template.key shown cs)) (lists_once (edges t) same.lists lists same.below below) same.grouped)

        stays_from : (before : List Component) (ps : List Piece) → AreSound (components_of ps)
            → ((k : Name) → below_key name_cmp k lists ≡ of_key name_cmp k (seen name_cmp display (keyed template.key before ++ keyed template.key (components_of ps))))
            → remaining template shown lists before ps ≡ ps
        stays_from before [] sound each = refl
        stays_from before (other line ∷ ps) sound each = ap (λ qs. other line ∷ qs) (stays_from before ps sound each)
        stays_from before (item c ∷ ps) sound each =
            let q = first_stands c (components_of ps) sound in
            let k = key_of template.key c in
            (λ i.
            items_for template shown (survivor name_cmp (k, c) (own_place name_cmp name_total name_one display lists (keyed template.key before) (keyed template.key (components_of ps)) (k, c) each i))
            ++ stays_from (before ++ c ∷ []) ps (others_sound c (components_of ps) sound) (λ j. each j ∙ ap (λ xs. of_key name_cmp j (seen name_cmp display xs)) (one_over before c (components_of ps))) i)
            ∙ ap (λ d. item d ∷ ps) ((writing template shown Fits is).stays k c q)
