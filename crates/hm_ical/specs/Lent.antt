-- What contracts see of lines, of places between them and of steps, whose texts are lent.
use Rattle.std.specs.Prelude.{List, reverse, Option, None, true}
use Rattle.std.specs.Borrow.{Bor}
use Rattle.hm_lines_cards.specs.Lines.{Line}
use Rattle.hm_lines_cards.specs.Lent.{lent}
use Rattle.hm_lines_files.specs.Components.{Bytes, other}
use Rattle.hm_lines_files.specs.Lent.{texts, piece_of}
use Rattle.hm_ical.specs.Scanning as plain
use Rattle.hm_ical.specs.declared.line.LineKind.{LineKind}
use Rattle.hm_ical.specs.declared.line.LineKind.TheVariants.{Begin, End, Property}
use Rattle.hm_ical.specs.declared.place.Place.{Place}
use Rattle.hm_ical.specs.declared.place.Place.TheVariants as place
use Rattle.hm_ical.specs.declared.place.Event.{Event}
use Rattle.hm_ical.specs.declared.place.Nested.{Nested}
use Rattle.hm_ical.specs.declared.place.Step.{Step}
use Rattle.hm_ical.specs.declared.place.Step.TheVariants as does
use Rattle.hm_ical.specs.declared.place.Move.{Move}
use Rattle.hm_ical.specs.declared.place.Move.TheVariants as move

abbrev pub kind_of : LineKind → plain.Kind
kind_of (Begin name) = plain.begin name.now
kind_of (End name) = plain.end name.now
kind_of (Property parts) = plain.property parts

-- names of which the last is the innermost
abbrev pub names_of : List (Bor Bytes) → List Bytes
names_of names = reverse (texts names)

abbrev pub event_of : Event → plain.Place
event_of e = plain.event (lent e.lines.items) (names_of e.names.items)

abbrev pub place_of : Place → plain.Place
place_of place.Before = plain.before
place_of place.Behind = plain.behind
place_of (place.Calendar told) = plain.calendar told
place_of (place.Event e) = event_of e
place_of (place.Other nested) = plain.component nested.name.now (names_of nested.around.items)

-- what a line does at a place, and where it leads
abbrev pub step_of : Step → plain.Place → Option plain.Step
step_of does.Stuck to = None
step_of does.On to = plain.step_to to
step_of (does.Ends piece) to = plain.step_with (piece_of piece) to

-- what a line does in an event, whose lines and names are these then
abbrev pub moved : Move → Bytes → List Line → List Bytes → Option plain.Step
moved move.Stuck line lines names = None
moved move.On line lines names = plain.step_to (plain.event lines names)
moved move.Out line lines names = plain.out_of_event lines line

abbrev pub move_of : Move → Bytes → Event → Option plain.Step
move_of made line e = moved made line (lent e.lines.items) (names_of e.names.items)

-- what a line does in another component, and where it leads
abbrev pub nested_of : Move → Bytes → Nested → Option plain.Step
nested_of move.Stuck line n = None
nested_of move.On line n = plain.step_with (other line) (place_of (place.Other n))
nested_of move.Out line n = plain.step_with (other line) (plain.calendar true)
