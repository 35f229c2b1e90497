-- Cards by their lines (RFC 6350, sections 3.3 and 6.1): one begins, has its version, then properties, and ends. Lines are
-- unfolded and without their ends.
use Rattle.std.specs.Prelude.{◌≡◌, Bool, false, true, List, [], ◌∷◌, ◌++◌, codes, map, All, Some, None}
use Rattle.std.specs.List.{list_any, flat_map}
use Rattle.std.specs.Str.{str_eq_ignore_ascii_case}
use Rattle.hm_tree.specs.Names.{Name}
use Rattle.hm_lines.specs.declared.content.LineParts.{LineParts}
use Rattle.hm_lines.specs.Content.{IsContentLine}
use Rattle.hm_book_cards.specs.Cards.{Shown}
use Rattle.hm_lines_cards.specs.Lines.{Line, is_of, AreFew}
use Rattle.hm_lines_cards.specs.Lent.{plain}
use Rattle.hm_lines_files.specs.Components.{Bytes, Component, Piece, item, Layout}
use Rattle.hm_lines_files.specs.Rewriting.{Template}
use Rattle.hm_lines_files.specs.Forms.{Form}

-- the lines of a card; properties are known with their parts
pub record CardLines : Type 0 where
  pub begin : Bytes
  pub version : Bytes
  pub properties : List Line
  pub end : Bytes

-- ---- what lines have to be

abbrev pub begin_line : Bytes
begin_line = codes "BEGIN:VCARD"

abbrev pub version_line : Bytes
version_line = codes "VERSION:4.0"

abbrev pub end_line : Bytes
end_line = codes "END:VCARD"

-- names of properties, and what begins and ends, have no case; these lines have no group and no parameters
abbrev pub is_line : Bytes → Bytes → Bool
is_line wanted line = str_eq_ignore_ascii_case line wanted

-- names that stand around a card's properties alone
abbrev pub frame_names : List Name
frame_names = codes "BEGIN" ∷ codes "END" ∷ codes "VERSION" ∷ []

abbrev pub is_frame : Line → Bool
is_frame line = list_any (λ name. is_of name line) frame_names

-- a content line with its parts, of another name
pub record IsProperty (line : Line) : Type 0 where
  pub parts : LineParts
  pub are : line.1 ≡ Some parts
  pub content : IsContentLine line.0 parts
  pub free : is_frame line ≡ false

-- ---- cards

-- the date of birth, of which a card has one text, be it shown or not
abbrev pub birthday : Name
birthday = codes "BDAY"

abbrev pub single : Shown
single = (birthday, false) ∷ []

pub record IsCard (card : CardLines) : Type 0 where
  pub begins : is_line begin_line card.begin ≡ true
  pub versioned : is_line version_line card.version ≡ true
  pub properties : All IsProperty card.properties
  pub ends : is_line end_line card.end ≡ true
  pub few : AreFew single card.properties

-- its lines, in their order
abbrev pub lines_of : CardLines → List Bytes
lines_of card = card.begin ∷ card.version ∷ (plain card.properties ++ card.end ∷ [])

abbrev pub all_lines : List CardLines → List Bytes
all_lines cards = flat_map lines_of cards

-- ---- files of cards

-- a card as a component: the lines in front are no properties
abbrev pub component_with : CardLines → Component
component_with card = record { lines = (card.begin, None) ∷ (card.version, None) ∷ card.properties; end = card.end }

abbrev pub pieces_with : List CardLines → List Piece
pieces_with cards = map (λ card. item (component_with card)) cards

pub record IsCardComponent (c : Component) : Type 0 where
  pub card : CardLines
  pub is : IsCard card
  pub same : c ≡ component_with card

-- a file is any number of cards, and nothing else
pub record IsFileOfCards (l : Layout) : Type 0 where
  pub cards : List CardLines
  pub each : All IsCard cards
  pub same : l ≡ record { pieces = pieces_with cards; end = [] }

-- the properties that may be shown, each with whether a card may have many texts of it
abbrev pub properties : Shown
properties =
    (birthday, false) ∷ (codes "EMAIL", true) ∷ (codes "NOTE", true) ∷ (codes "ROLE", true) ∷ (codes "TEL", true) ∷ (codes "TITLE", true) ∷ []

-- the first text of its full names is a card's key; a new card has nothing else
abbrev pub card_template : Template
card_template = record { key = codes "FN"; front = (begin_line, None) ∷ (version_line, None) ∷ []; more = []; end = end_line }

abbrev pub vcards : Form
vcards = record { tag = 3; properties = properties; template = card_template; fits = λ o c. IsCardComponent c; has = λ o l. IsFileOfCards l }
