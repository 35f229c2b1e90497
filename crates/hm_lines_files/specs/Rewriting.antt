-- The components of a file that is to show another tree. A component survives by its key and its place among those of this
-- key, with the lines that show what has changed rewritten; the others go, and new ones stand behind all. Every other line
-- stays where it is.
use Rattle.std.specs.Prelude.{◌≡◌, List, [], ◌∷◌, ◌++◌, map, length, slice_get, Option, Some, None}
use Rattle.hm_tree.specs.Names.{Name, name_cmp}
use Rattle.hm_tree.specs.Nodes.{Tree, edges}
use Rattle.hm_book_items.specs.Items.{of_key, below_key, survivor, added}
use Rattle.hm_book_items.specs.ItemTrees.{AreLists, Lists}
use Rattle.hm_book_cards.specs.Cards.{Shown}
use Rattle.hm_lines_cards.specs.Lines.{Line}
use Rattle.hm_lines_cards.specs.Rewriting.{new_line, rewritten}
use Rattle.hm_lines_files.specs.Components.{Bytes, Component, Piece, other, item, Layout, components_of, key_of}

-- the property whose text is the key, and what a new component has before the line of its key, behind it, and as its end
pub record Template : Type 0 where
  pub key : Name
  pub front : List Line
  pub more : List Line
  pub end : Bytes

-- a component of nothing but its key
abbrev pub blank : Template → Name → Component
blank template k = record { lines = template.front ++ new_line template.key k ∷ template.more; end = template.end }

-- a component from before, or a blank one with the key
abbrev pub base : Template → Name → Option Component → Component
base template k None = blank template k
base template k (Some c) = c

-- a component with the lines that are to show a card
abbrev pub showing : Shown → Tree → Component → Component
showing shown card c = record { lines = rewritten shown card c.lines; end = c.end }

-- the component of a key, from before or new, that is to show a card
abbrev pub component_for : Template → Shown → Name × Option Component × Tree → Component
component_for template shown s = showing shown s.2 (base template s.0 s.1)

-- components with their keys
abbrev pub keyed : Name → List Component → List (Name × Component)
keyed key cs = map (λ c. (key_of key c, c)) cs

abbrev pub items_for : Template → Shown → List (Name × Option Component × Tree) → List Piece
items_for template shown slots = map (λ s. item (component_for template shown s)) slots

-- what becomes of a component behind others: it survives where the list at its key goes up to its place
abbrev pub fate : Template → Shown → Lists → List Component → Component → List Piece
fate template shown lists before c =
    let k = key_of template.key c in
    items_for template shown (survivor name_cmp (k, c) (slice_get (below_key name_cmp k lists) (length (of_key name_cmp k (keyed template.key before)))))

-- the pieces from before, behind some components
abbrev pub remaining : Template → Shown → Lists → List Component → List Piece → List Piece
remaining template shown lists before [] = []
remaining template shown lists before (other line ∷ ps) = other line ∷ remaining template shown lists before ps
remaining template shown lists before (item c ∷ ps) = fate template shown lists before c ++ remaining template shown lists (before ++ c ∷ []) ps

-- and the new components, by their keys and places
abbrev pub rewritten_pieces : Template → Shown → Lists → List Piece → List Piece
rewritten_pieces template shown lists ps =
    remaining template shown lists [] ps ++ items_for template shown (added name_cmp (keyed template.key (components_of ps)) lists)

abbrev pub rewritten_layout : Template → Shown → Lists → Layout → Layout
rewritten_layout template shown lists l = record { pieces = rewritten_pieces template shown lists l.pieces; end = l.end }

-- a file that is to show a tree
pub record IsRewritten (template : Template) (shown : Shown) (t : Tree) (old new : Layout) : Type 0 where
  pub lists : Lists
  pub below : AreLists (edges t) lists
  pub is : new ≡ rewritten_layout template shown lists old
