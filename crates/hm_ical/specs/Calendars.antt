-- Files of calendars (RFC 5545, section 3.4) as a form of files of components: those are the events directly in the calendar.
use Rattle.std.specs.Prelude.{◌≡◌, Bool, true, false, ◌||◌, List, [], ◌∷◌, ◌++◌, codes, map, Some}
use Rattle.hm_lines.specs.declared.content.LineParts.{LineParts}
use Rattle.hm_book_cards.specs.Cards.{Shown}
use Rattle.hm_lines_cards.specs.Lines.{Line}
use Rattle.hm_lines_files.specs.Components.{Bytes, Component, Piece, other, item, Layout}
use Rattle.hm_lines_files.specs.Rewriting.{Template}
use Rattle.hm_lines_files.specs.Forms.{Form, shown_by}
use Rattle.hm_ical.specs.Lines.{is_same, is_version, IsBegin, IsEnd, IsProperty, AreComponent}
use Rattle.hm_ical.specs.Events.{event_name, key_name, other_line, IsEvent}

abbrev pub calendar_name : Bytes
calendar_name = codes "VCALENDAR"

-- what stands in a calendar whose version has been told, or not yet: properties, and behind the one that tells it other
-- components and events
pub data IsBody (shown : Shown) : Bool → List Piece → Type 0 where
  ends : IsBody shown true []
  property : {told : Bool} {line : Bytes} {parts : LineParts} {ps : List Piece} → IsProperty line parts → IsBody shown (told || is_version line) ps
      → IsBody shown told (other line ∷ ps)
  component : {lines : List Bytes} {ps : List Piece} (name : Bytes) → AreComponent name lines → is_same name event_name ≡ false → IsBody shown true ps
      → IsBody shown true (map other lines ++ ps)
  event : {c : Component} {ps : List Piece} → IsEvent shown c → IsBody shown true ps → IsBody shown true (item c ∷ ps)

pub record IsCalendar (shown : Shown) (l : Layout) : Type 0 where
  pub begin : Bytes
  pub body : List Piece
  pub end : Bytes
  pub begins : IsBegin calendar_name begin
  pub inside : IsBody shown false body
  pub ends : IsEnd calendar_name end
  pub pieces_are : l.pieces ≡ other begin ∷ body
  pub end_is : l.end ≡ end ∷ []

-- ---- the form

-- the properties that may be shown, of each of which an event has one text
abbrev pub properties : Shown
properties =
    (codes "DESCRIPTION", false) ∷ (codes "DTEND", false) ∷ (codes "DTSTART", false) ∷ (codes "LOCATION", false) ∷ (codes "SUMMARY", false) ∷ []

abbrev pub stamp_line : Line
stamp_line = (codes "DTSTAMP:19700101T000000Z", Some (record { name_from = 0; name_to = 7; value_from = 8 }))

-- a new event begins, has its key and a time at which it was made, which is always the same, and ends
abbrev pub event_template : Template
event_template = record { key = key_name; front = other_line (codes "BEGIN:VEVENT") ∷ []; more = stamp_line ∷ []; end = codes "END:VEVENT" }

abbrev pub ical : Form
ical = record {
  tag = 4;
  properties = properties;
  template = event_template;
  fits = λ o c. IsEvent (shown_by properties o) c;
  has = λ o l. IsCalendar (shown_by properties o) l;
}
