-- Events (RFC 5545, section 3.6.1) by their lines: of those of an event's own properties the parts are known.
use Rattle.std.specs.Prelude.{◌≡◌, false, List, [], ◌∷◌, ◌++◌, codes, map, Some, None}
use Rattle.hm_tree.specs.Names.{Name}
use Rattle.hm_lines.specs.declared.content.LineParts.{LineParts}
use Rattle.hm_book_cards.specs.Cards.{Shown}
use Rattle.hm_lines_cards.specs.Lines.{Line, AreFew}
use Rattle.hm_lines_files.specs.Components.{Bytes, Component}
use Rattle.hm_ical.specs.Lines.{IsBegin, IsEnd, IsProperty, AreComponent}

abbrev pub event_name : Bytes
event_name = codes "VEVENT"

-- the property whose text is the key
abbrev pub key_name : Name
key_name = codes "UID"

-- an event has no second text of its key, and none of a property that is shown
abbrev pub singles : Shown → Shown
singles shown = (key_name, false) ∷ shown

-- a line that is none of an event's own properties
abbrev pub other_line : Bytes → Line
other_line line = (line, None)

-- what stands in an event: its own properties, and components
pub data AreOwn : List Line → Type 0 where
  nothing : AreOwn []
  property : {line : Bytes} {parts : LineParts} {lines : List Line} → IsProperty line parts → AreOwn lines → AreOwn ((line, Some parts) ∷ lines)
  component : {inner : List Bytes} {lines : List Line} (name : Bytes) → AreComponent name inner → AreOwn lines → AreOwn (map other_line inner ++ lines)

pub record IsEvent (shown : Shown) (c : Component) : Type 0 where
  pub begin : Bytes
  pub own : List Line
  pub begins : IsBegin event_name begin
  pub inside : AreOwn own
  pub are : c.lines ≡ other_line begin ∷ own
  pub ends : IsEnd event_name c.end
  pub few : AreFew (singles shown) c.lines
