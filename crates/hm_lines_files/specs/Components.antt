-- The components of a file of content lines: vCards (RFC 6350, section 6.1), and what stands between BEGIN and END in a
-- calendar (RFC 5545, section 3.4). They are the items of the file; between them other lines may stand.
use Rattle.std.specs.Prelude.{◌≢◌, ℕ, List, [], ◌∷◌, ◌++◌, map}
use Rattle.std.specs.List.{flat_map}
use Rattle.hm_tree.specs.Names.{Name}
use Rattle.hm_tree.specs.Nodes.{Tree}
use Rattle.hm_book_cards.specs.Cards.{Shown}
use Rattle.hm_lines_cards.specs.Lines.{Line, texts_of, card_of}
use Rattle.hm_lines_cards.specs.Lent.{plain}

abbrev pub Bytes : Type 0
Bytes = List ℕ

-- a component: all its lines but the last, those of its own properties with their parts, and the line that ends it
pub record Component : Type 0 where
  pub lines : List Line
  pub end : Bytes

abbrev pub lines_of : Component → List Bytes
lines_of c = plain c.lines ++ c.end ∷ []

-- ---- files

-- a line of none of the components, or a component
pub data Piece : Type 0 where
  other : Bytes → Piece
  item : Component → Piece

abbrev pub piece_lines : Piece → List Bytes
piece_lines (other line) = line ∷ []
piece_lines (item c) = lines_of c

-- the pieces of a file, and the lines before which new components stand
pub record Layout : Type 0 where
  pub pieces : List Piece
  pub end : List Bytes

abbrev pub all_lines : Layout → List Bytes
all_lines l = flat_map piece_lines l.pieces ++ l.end

abbrev pub components_of : List Piece → List Component
components_of [] = []
components_of (other line ∷ ps) = components_of ps
components_of (item c ∷ ps) = c ∷ components_of ps

abbrev pub components : Layout → List Component
components l = components_of l.pieces

-- ---- components as items

abbrev pub first_name : List Name → Name
first_name [] = []
first_name (k ∷ ks) = k

-- the first text that a component shows below the name of a property is its key
abbrev pub key_of : Name → Component → Name
key_of key c = first_name (texts_of key c.lines)

abbrev pub HasKey : Name → Component → Type 0
HasKey key c = texts_of key c.lines ≢ []

abbrev pub item_of : Name → Shown → Component → Name × Tree
item_of key shown c = (key_of key c, card_of shown c.lines)

abbrev pub items_of : Name → Shown → List Component → List (Name × Tree)
items_of key shown cs = map (item_of key shown) cs
