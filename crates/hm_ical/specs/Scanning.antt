-- The lines of a calendar one after another: where each leads, and which pieces are behind it.
use Rattle.std.specs.Prelude.{◌≡◌, ◌≢◌, ℕ, ◌≤◌, Bool, true, false, cond, ◌||◌, List, [], ◌∷◌, ◌++◌, All, length, take, drop, slice_get, Option, Some, None, option_to_list}
use Rattle.std.specs.Bool.{◌==◌}
use Rattle.std.specs.List.{list_any}
use Rattle.hm_lines.specs.declared.content.LineParts.{LineParts}
use Rattle.hm_lines.specs.Content.{colon}
use Rattle.hm_book_cards.specs.Cards.{Shown}
use Rattle.hm_lines_cards.specs.Lines.{Line, IsLine, is_second}
use Rattle.hm_lines_files.specs.Components.{Bytes, Piece, other, item}
use Rattle.hm_lines_files.specs.declared.layout_fault.LayoutFault.{LayoutFault}
use Rattle.hm_lines_files.specs.declared.layout_fault.LayoutFault.TheVariants as stop
use Rattle.hm_ical.specs.Lines.{is_same, is_version, IsBegin, IsEnd, IsProperty}
use Rattle.hm_ical.specs.Events.{event_name, other_line}
use Rattle.hm_ical.specs.Calendars.{calendar_name}

-- ---- what a line is

pub data Kind : Type 0 where
  begin : Bytes → Kind
  end : Bytes → Kind
  property : LineParts → Kind

-- it begins or ends a component with its value as the name, or is a property with its parts
abbrev pub IsKind : Bytes → Kind → Type 0
IsKind line (begin name) = IsBegin name line × (name ≡ drop 6 line)
IsKind line (end name) = IsEnd name line × (name ≡ drop 4 line)
IsKind line (property parts) = IsProperty line parts

-- a front of a line ends in `:`
abbrev pub ends_in_colon : Bytes → Bool
ends_in_colon [] = false
ends_in_colon (b ∷ []) = b == colon
ends_in_colon (b ∷ c ∷ rest) = ends_in_colon (c ∷ rest)

-- ---- where lines lead

pub data Place : Type 0 where
  -- before the first line, and behind the last
  before : Place
  behind : Place
  -- directly in the calendar, whose version has been told or not yet
  calendar : Bool → Place
  -- in an event with these lines so far, and in components of it with these names, the innermost first
  event : List Line → List Bytes → Place
  -- in another component of this name, and in those around it, the innermost first
  component : Bytes → List Bytes → Place

-- a place, and the piece that a line is of or ends
abbrev pub Step : Type 0
Step = Place × Option Piece

abbrev pub step_to : Place → Option Step
step_to to = Some (to, None)

abbrev pub step_with : Piece → Place → Option Step
step_with piece to = Some (to, Some piece)

-- a step, if something holds
abbrev pub if_so : Bool → Option Step → Option Step
if_so holds step = cond holds step None

abbrev pub from_start : Bytes → Kind → Option Step
from_start line (begin name) = if_so (is_same name calendar_name) (step_with (other line) (calendar false))
from_start line (end name) = None
from_start line (property parts) = None

-- with the line that begins it
abbrev pub into_component : Bytes → Bytes → Option Step
into_component line name = cond (is_same name event_name) (step_to (event (other_line line ∷ []) [])) (step_with (other line) (component name []))

abbrev pub in_calendar : Bool → Bytes → Kind → Option Step
in_calendar told line (begin name) = if_so told (into_component line name)
in_calendar told line (end name) = if_so told (if_so (is_same name calendar_name) (step_to behind))
in_calendar told line (property parts) = step_with (other line) (calendar (told || is_version line))

-- out of a component, into the one around it
abbrev pub around : List Bytes → Place
around [] = calendar true
around (name ∷ names) = component name names

abbrev pub in_component : Bytes → List Bytes → Bytes → Kind → Option Step
in_component name names line (begin inner) = step_with (other line) (component inner (name ∷ names))
in_component name names line (end ended) = if_so (is_same ended name) (step_with (other line) (around names))
in_component name names line (property parts) = step_with (other line) (component name names)

abbrev pub with_line : List Line → Line → List Bytes → Option Step
with_line lines line names = step_to (event (lines ++ line ∷ []) names)

-- out of an event, behind the line that ends it
abbrev pub out_of_event : List Line → Bytes → Option Step
out_of_event lines line = step_with (item (record { lines = lines; end = line })) (calendar true)

-- directly in an event
abbrev pub in_event : Shown → List Line → Bytes → Kind → Option Step
in_event singles lines line (begin name) = with_line lines (other_line line) (name ∷ [])
in_event singles lines line (end name) = if_so (is_same name event_name) (out_of_event lines line)
in_event singles lines line (property parts) =
    cond (list_any (is_second lines (line, Some parts)) singles) None (with_line lines (line, Some parts) [])

-- in a component of an event
abbrev pub in_inner : List Line → Bytes → List Bytes → Bytes → Kind → Option Step
in_inner lines name names line (begin inner) = with_line lines (other_line line) (inner ∷ name ∷ names)
in_inner lines name names line (end ended) = if_so (is_same ended name) (with_line lines (other_line line) names)
in_inner lines name names line (property parts) = with_line lines (other_line line) (name ∷ names)

-- where a line of a kind leads from a place; nowhere where it doesn't fit
abbrev pub next : Shown → Place → Bytes → Kind → Option Step
next singles before line kind = from_start line kind
next singles behind line kind = None
next singles (calendar told) line kind = in_calendar told line kind
next singles (event lines []) line kind = in_event singles lines line kind
next singles (event lines (name ∷ names)) line kind = in_inner lines name names line kind
next singles (component name names) line kind = in_component name names line kind

-- ---- many lines

pub record Goes (singles : Shown) (from : Place) (line : Bytes) (step : Step) : Type 0 where
  pub kind : Kind
  pub is : IsKind line kind
  pub leads : next singles from line kind ≡ Some step

-- a line leads nowhere
abbrev pub IsStuck : Shown → Place → Bytes → Type 0
IsStuck singles from line = (kind : Kind) → IsKind line kind → next singles from line kind ≡ None

-- lines lead from one place to another, and these pieces are behind them
abbrev pub Runs : Shown → Place → List Bytes → List Piece → Place → Type 0
Runs singles from [] pieces to = (from ≡ to) × (pieces ≡ [])
Runs singles from (line ∷ lines) pieces to =
    (step : Step) × (more : List Piece) × Goes singles from line step × Runs singles step.0 lines more to × (pieces ≡ option_to_list step.1 ++ more)

-- where a line leads, if it fits, and the pieces behind it
abbrev pub IsStep : Shown → Place → Bytes → List Piece → List Piece → Option Place → Type 0
IsStep singles from line old new None = IsStuck singles from line
IsStep singles from line old new (Some to) = (piece : Option Piece) × Goes singles from line (to, piece) × (new ≡ old ++ option_to_list piece)

-- the lines before a place lead somewhere, but not the one at it; or all of them do, but not to the end
pub record IsRefused (singles : Shown) (lines : List Bytes) (place : ℕ) : Type 0 where
  pub within : place ≤ length lines
  pub pieces : List Piece
  pub at : Place
  pub runs : Runs singles before (take place lines) pieces at
  pub stuck : (line : Bytes) → slice_get lines place ≡ Some line → IsStuck singles at line
  pub unfinished : place ≡ length lines → at ≢ behind

abbrev pub IsRunStop : Shown → List Bytes → LayoutFault → Type 0
IsRunStop singles lines (stop.At place) = IsRefused singles lines place
IsRunStop singles lines stop.Memory = Unit {0}

-- the lines of an event have the parts that they say
abbrev pub AreSound : Place → Type 0
AreSound before = Unit {0}
AreSound behind = Unit {0}
AreSound (calendar told) = Unit {0}
AreSound (event lines names) = All IsLine lines
AreSound (component name names) = Unit {0}
