-- What is written is read as the tree, and what stays.
use Rattle.std.proofs.Common.{◌≡◌, ◌≢◌, ◌⊎◌, ℕ, inl, inr, T, List, [], refl, sym, ap, ◌∙◌, subst}
use Rattle.std.specs.Prelude.{All, IsUtf8, None, Ok}
use Rattle.std.specs.FinMap.{is_sorted}
use Rattle.hm_tree.specs.Names.{name_cmp}
use Rattle.hm_tree.specs.Nodes.{Tree, edges, are_edges}
use Rattle.hm_schema.specs.Values.{OptionsValue}
use Rattle.hm_lines.specs.Folding.{AreFolded}
use Rattle.hm_lines.specs.Folding.{IsPlain}
use Rattle.hm_lines.proofs.Laws.{ended_utf8, folded_unfolded, folded_lines, all_folded_once}
use Rattle.hm_book_items.specs.ItemTrees.{IsItemTree, HasLists, Lists}
use Rattle.hm_book_items.proofs.Laws.{lists_once, are_lists}
use Rattle.hm_book_cards.specs.Books as books
use Rattle.hm_book_cards.proofs.Laws.{member_book, book_member}
use Rattle.hm_format.specs.Formats.{depth_over}
use Rattle.hm_schema.specs.Membership.{IsMemberTree}
use Rattle.hm_format.proofs.Limits.{shallow}
use Rattle.hm_lines_files.specs.Components.{Layout, all_lines, components, HasKey, items_of}
use Rattle.hm_lines_files.specs.Rewriting.{rewritten_layout, IsRewritten}
use Rattle.hm_lines_files.specs.Kept.{ArePieces}
use Rattle.hm_lines_files.specs.Forms.{Form, shown_of}
use Rattle.hm_lines_files.specs.Files.{lines_in, full, IsFile, IsBook, Reads}
use Rattle.hm_lines_files.specs.Writing.{IsWrittenAnew, Writes, stays, anew, Keeps}
use Rattle.hm_lines_files.specs.FormLaws.{IsForm}
use Rattle.hm_lines_files.specs.WrittenFiles.{ListsRise, IsWritten}
use Rattle.hm_lines_files.proofs.FullLines.{full_all}
use Rattle.hm_lines_files.proofs.PieceLines.{IsSound, file_lines}
use Rattle.hm_lines_files.proofs.ShownProperties.{shown_edges}
use Rattle.hm_lines_files.proofs.ReadOnce.{laid_out_once, file_once}
use Rattle.hm_lines_files.proofs.Books.{read_book}
use Rattle.hm_lines_files.proofs.Rewritings.{layout_stays, new_has, new_kept, new_keys, new_tree, new_lines}

module _ (f : Form) (law : IsForm f) (o : OptionsValue) where
  abbrev Rewritten : Tree → Layout → Layout → Type 0
  Rewritten t old new = IsRewritten f.template (shown_of f o) t old new

  -- ---- one text is written

  rewritten_once : (t : Tree) (old a b : Layout) → Rewritten t old a → Rewritten t old b → a ≡ b
  rewritten_once t old a b h k =
      h.is ∙ ap (λ (ls : Lists). rewritten_layout f.template (shown_of f o) ls old) (lists_once (edges t) h.lists k.lists h.below k.below) ∙ sym k.is

  anew_once : (t : Tree) (before one other : List ℕ) → IsWrittenAnew f o t before one → IsWrittenAnew f o t before other → one ≡ other
  anew_once t before one other h k =
      let old = laid_out_once f law o (lines_in before) h.old k.old h.are k.are in
      let new = rewritten_once t k.old h.new k.new (subst (λ (l : Layout). Rewritten t l h.new) old h.rewritten) k.rewritten in
      all_folded_once (all_lines k.new) one other (subst (λ (l : Layout). AreFolded (all_lines l) one) new h.text) k.text

  pub writes_once : (t : Tree) (before one other : List ℕ) → Writes f o t before one → Writes f o t before other → one ≡ other
  writes_once t before one other (stays h) (stays k) = refl
  writes_once t before one other (stays h) (anew not_read w) = absurd (not_read h)
  writes_once t before one other (anew not_read w) (stays k) = absurd (not_read k)
  writes_once t before one other (anew a h) (anew b k) = anew_once t before one other h k

  -- ---- what is read is a book

  abbrev IsOfSchema : Tree → Type 0
  IsOfSchema t = IsMemberTree (books.book_schema (shown_of f o)) t

  shown_names : T (are_edges (shown_of f o))
  shown_names = shown_edges f.properties o law.properties.names

  pub members : (bytes : List ℕ) (t : Tree) → Reads f o bytes (Ok t) → IsOfSchema t
  members bytes t h = member_book (shown_of f o) shown_names t (read_book f law o bytes t h.0)

  -- a book's components have keys in each layout of its file
  pub keyed_there : (bytes : List ℕ) (t : Tree) → Reads f o bytes (Ok t) → (l : Layout) → IsFile f o bytes l → All (HasKey f.template.key) (components l)
  keyed_there bytes t read l file = subst (λ (l : Layout). All (HasKey f.template.key) (components l)) (file_once f law o bytes read.0.layout l read.0.file file) read.0.keyed

  -- the lists of a tree that is to be written
  module _ (t : Tree) (member : IsOfSchema t) where
    is_book : books.IsBook (shown_of f o) t
    is_book = book_member (shown_of f o) shown_names t member

    pub has_lists : HasLists t
    has_lists = are_lists t is_book.lists is_book.below

    pub lists_rise : ListsRise t
    lists_rise lists below =
        subst (λ (ls : Lists). T (is_sorted name_cmp ls)) (lists_once (edges t) is_book.lists lists is_book.below below) is_book.tree_is.sorted

  -- ---- a file that is to show a book

  module _ (bytes : List ℕ) (l : Layout) (file : IsFile f o bytes l) (keyed : All (HasKey f.template.key) (components l)) (t : Tree)
      (book : books.IsBook (shown_of f o) t) (new : Layout) (rewritten : Rewritten t l new) where
    lines : All IsSound (all_lines l)
    lines = file_lines f law o bytes l file

    has_again : f.has o new
    has_again = subst (f.has o) (sym rewritten.is) (new_has f law o l file.are.has keyed lines t rewritten.lists rewritten.below book)

    keyed_again : All (HasKey f.template.key) (components new)
    keyed_again =
        subst (λ (l : Layout). All (HasKey f.template.key) (components l)) (sym rewritten.is)
        (new_keys f law o l file.are.has keyed lines t rewritten.lists rewritten.below book)

    shows_tree : IsItemTree (items_of f.template.key (shown_of f o) (components new)) t
    shows_tree =
        subst (λ (l : Layout). IsItemTree (items_of f.template.key (shown_of f o) (components l)) t) (sym rewritten.is)
        (new_tree f law o l file.are.has keyed lines t rewritten.lists rewritten.below book)

    sound_again : All IsSound (all_lines new)
    sound_again =
        subst (λ (l : Layout). All IsSound (all_lines l)) (sym rewritten.is)
        (new_lines f law o l file.are.has keyed lines t rewritten.lists rewritten.below book)

    -- its lines, folded, are those of a file
    new_file : (after : List ℕ) → AreFolded (all_lines new) after → IsFile f o after new
    new_file after folded =
        let plain : All IsPlain (all_lines new) = λ k d lt. (sound_again k d lt).0 in
        record {
          text = subst IsUtf8 (sym (folded_unfolded (all_lines new) after plain folded)) (ended_utf8 (all_lines new) (λ k d lt. (sound_again k d lt).1));
          are = record {
            has = has_again;
            are = ap full (folded_lines (all_lines new) after plain folded) ∙ full_all (all_lines new) (law.full o new has_again);
          };
        }

    -- which is read as the book
    pub written_book : (after : List ℕ) → AreFolded (all_lines new) after → IsBook f o after t
    written_book after folded = record { layout = new; file = new_file after folded; keyed = keyed_again; tree = shows_tree }

    -- and where they are the old ones, so were the bytes
    pub unchanged_book : all_lines new ≡ all_lines l → IsBook f o bytes t
    unchanged_book same = record {
      layout = l;
      file = file;
      keyed = keyed;
      tree = subst (λ (l : Layout). IsItemTree (items_of f.template.key (shown_of f o) (components l)) t) (law.once o new l has_again file.are.has same) shows_tree;
    }

  -- where bytes are read as the tree, their layout stays
  module _ (bytes : List ℕ) (t : Tree) (h : IsBook f o bytes t) where
    pub own : Rewritten t h.layout h.layout
    own = record {
      lists = h.tree.lists;
      below = h.tree.below;
      is = sym (layout_stays f law o h.layout h.file.are.has h.keyed (file_lines f law o bytes h.layout h.file) t h.tree.lists h.tree.below h.tree);
    }

    pub same_layout : (l new : Layout) → IsFile f o bytes l → Rewritten t l new → new ≡ l
    same_layout l new file rewritten =
        let same = file_once f law o bytes h.layout l h.file file in
        rewritten_once t l new l rewritten (subst (λ (l : Layout). Rewritten t l l) same own)

  module _ (before : List ℕ) (old t : Tree) (read : Reads f o before (Ok old)) (member : IsOfSchema t) (over : depth_over t ≡ None) where
    book : books.IsBook (shown_of f o) t
    book = book_member (shown_of f o) shown_names t member

    anew_file : (after : List ℕ) (w : IsWrittenAnew f o t before after) → IsFile f o before w.old
    anew_file after w = record { text = read.0.file.text; are = w.are }

    anew_read : (after : List ℕ) → IsWrittenAnew f o t before after → Reads f o after (Ok t)
    anew_read after w =
        let file = anew_file after w in
        (written_book before w.old file (keyed_there before old read w.old file) t book w.new w.rewritten after w.text, shallow t over)

    pub put_get : (after : List ℕ) → Writes f o t before after → Reads f o after (Ok t)
    put_get after (stays h) = h
    put_get after (anew not_read w) = anew_read after w

    -- what is rewritten for the tree keeps what has to stay
    kept_by : (l new : Layout) → IsFile f o before l → (after : List ℕ) → IsFile f o after new → Rewritten t l new → Keeps f o before after
    kept_by l new file after file_now rewritten = record {
      old = l;
      was = file.are;
      new = new;
      now = file_now.are;
      pieces = subst (λ (n : Layout). ArePieces f.template.key (shown_of f o) (components n) [] l.pieces n.pieces) (sym rewritten.is)
          (new_kept f law o l file.are.has (keyed_there before old read l file) (file_lines f law o before l file) t rewritten.lists rewritten.below book);
      end = ap (λ (n : Layout). n.end) rewritten.is;
    }

    pub keeps : (after : List ℕ) → Writes f o t before after → Keeps f o before after
    keeps after (stays h) = kept_by h.0.layout h.0.layout h.0.file after h.0.file (own before t h.0)
    keeps after (anew not_read w) =
        let file = anew_file after w in
        kept_by w.old w.new file after (new_file before w.old file (keyed_there before old read w.old file) t book w.new w.rewritten after w.text) w.rewritten

    -- ---- what is written behind a file whose layout is known

    pub is_written : (l : Layout) → IsFile f o before l → (after : List ℕ) → IsWritten f.template (shown_of f o) t l before after → Writes f o t before after
    is_written l file after w = go w.text
      where
        go : ((all_lines w.new ≡ all_lines l) × (after ≡ before)) ⊎ ((all_lines w.new ≢ all_lines l) × AreFolded (all_lines w.new) after) → Writes f o t before after
        go (inl (same, kept)) =
            subst (Writes f o t before) (sym kept)
            (stays (unchanged_book before l file (keyed_there before old read l file) t book w.new w.rewritten same, shallow t over))
        go (inr (apart, folded)) =
            anew (λ h. apart (ap all_lines (same_layout before t h.0 l w.new file w.rewritten)))
            (record { old = l; are = file.are; new = w.new; rewritten = w.rewritten; text = folded })
