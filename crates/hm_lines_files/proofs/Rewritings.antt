-- What is known of the pieces of a file that are to show a tree.
use Rattle.std.proofs.Common.{◌≡◌}
use Rattle.std.specs.Prelude.{[], All, IsUtf8}
use Rattle.hm_tree.specs.Nodes.{Tree, edges}
use Rattle.hm_schema.specs.Values.{OptionsValue}
use Rattle.hm_book_items.specs.ItemTrees.{AreLists, IsItemTree, Lists}
use Rattle.hm_book_cards.specs.Books as books
use Rattle.hm_lines_files.specs.Components.{Layout, all_lines, components, HasKey, items_of}
use Rattle.hm_lines_files.specs.Rewriting.{rewritten_layout}
use Rattle.hm_lines_files.specs.Kept.{ArePieces}
use Rattle.hm_lines_files.specs.Forms.{Form, shown_of}
use Rattle.hm_lines_files.specs.FormLaws.{IsForm}
use Rattle.hm_lines_files.proofs.RewritingLaws.{IsKind, AreSound, tree_renewed, new_sound, tree_again, stays, pieces_kept}
use Rattle.hm_lines_files.proofs.ShownProperties.{shown_properties, shown_apart}
use Rattle.hm_lines_files.proofs.PieceLines.{IsSound, in_components}
use Rattle.hm_lines_files.proofs.SoundLines.{sound_again}

module _ (f : Form) (law : IsForm f) (o : OptionsValue) where
  template : IsKind f.template (shown_of f o) (f.fits o)
  template = record {
    properties = shown_properties f.properties o law.properties;
    word = law.word;
    capitals = law.capitals;
    apart = shown_apart f.properties o f.template.key law.apart;
    front = law.front;
    more = law.more;
    end = law.end;
    front_lines = law.front_lines;
    more_lines = law.more_lines;
    new = law.new o;
    lines = law.lines o;
    few = law.few o;
    showing = law.showing o;
  }

  -- a layout of a file, whose components have keys, and lines that can be folded and read
  module _ (l : Layout) (has : f.has o l) (keys : All (HasKey f.template.key) (components l)) (lines : All IsSound (all_lines l)) where
    sound : AreSound f.template (shown_of f o) (f.fits o) template (components l)
    sound = record { fit = law.fit o l has; has = keys; text = in_components IsUtf8 l (λ k d lt. (lines k d lt).1) }

    module _ (t : Tree) (lists : Lists) (below : AreLists (edges t) lists) where
      abbrev new : Layout
      new = rewritten_layout f.template (shown_of f o) lists l

      -- where it shows the tree already it stays
      pub layout_stays : IsItemTree (items_of f.template.key (shown_of f o) (components l)) t → new ≡ l
      layout_stays same = λ i. record { pieces = stays f.template (shown_of f o) (f.fits o) template l.pieces sound t lists below same i; end = l.end }

      module _ (book : books.IsBook (shown_of f o) t) where
        -- it's one of a file again, whose components have keys and show the tree
        pub new_has : f.has o new
        new_has = law.renewed o l _ has (tree_renewed f.template (shown_of f o) (f.fits o) template l.pieces sound t lists below book)

        -- what stays of its pieces
        pub new_kept : ArePieces f.template.key (shown_of f o) (components new) [] l.pieces new.pieces
        new_kept = pieces_kept f.template (shown_of f o) (f.fits o) template l.pieces sound t lists below book

        pub new_keys : All (HasKey f.template.key) (components new)
        new_keys = (new_sound f.template (shown_of f o) (f.fits o) template l.pieces sound t lists below book).has

        pub new_tree : IsItemTree (items_of f.template.key (shown_of f o) (components new)) t
        new_tree = tree_again f.template (shown_of f o) (f.fits o) template l.pieces sound t lists below book

        -- in lines that can be folded and read
        pub new_lines : All IsSound (all_lines new)
        new_lines = sound_again f.template (shown_of f o) (f.fits o) template l (law.fit o l has) keys lines t lists below book
