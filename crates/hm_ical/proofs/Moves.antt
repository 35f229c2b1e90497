-- The ways in which a line can lead from one place to another.
use Rattle.std.proofs.Common.{◌≡◌, Bool, true, false, cond, ◌||◌, List, [], ◌∷◌, ◌++◌, Option, Some, None, refl, subst}
use Rattle.std.specs.List.{list_any}
use Rattle.std.proofs.lemmas.Option.{same_Some, none-some}
use Rattle.hm_lines.specs.declared.content.LineParts.{LineParts}
use Rattle.hm_book_cards.specs.Cards.{Shown}
use Rattle.hm_lines_cards.specs.Lines.{Line, is_second}
use Rattle.hm_lines_files.specs.Components.{Bytes, other, item}
use Rattle.hm_ical.specs.Lines.{is_same, is_version, begin_front, end_front, IsBegin, IsEnd, IsProperty}
use Rattle.hm_ical.specs.Events.{event_name, other_line}
use Rattle.hm_ical.specs.Calendars.{calendar_name}
use Rattle.hm_ical.specs.Scanning.{Kind, begin, end, property, IsKind, Place, before, behind, calendar, event, component, Step, if_so, around, with_line, next}
use Rattle.hm_ical.proofs.Fronts.{same_behind}

pub data Move (singles : Shown) : Place → Bytes → Step → Type 0 where
  starts : {line : Bytes} → IsBegin calendar_name line → Move singles before line (calendar false, Some (other line))
  stays : {told : Bool} {line : Bytes} {parts : LineParts} → IsProperty line parts
      → Move singles (calendar told) line (calendar (told || is_version line), Some (other line))
  enters_event : {line : Bytes} → IsBegin event_name line → Move singles (calendar true) line (event (other_line line ∷ []) [], None)
  enters : {line name : Bytes} → IsBegin name line → is_same name event_name ≡ false → Move singles (calendar true) line (component name [], Some (other line))
  leaves : {line : Bytes} → IsEnd calendar_name line → Move singles (calendar true) line (behind, None)
  component_stays : {name line : Bytes} {names : List Bytes} {parts : LineParts} → IsProperty line parts
      → Move singles (component name names) line (component name names, Some (other line))
  component_enters : {name inner line : Bytes} {names : List Bytes} → IsBegin inner line
      → Move singles (component name names) line (component inner (name ∷ names), Some (other line))
  component_leaves : {name line : Bytes} {names : List Bytes} → IsEnd name line → Move singles (component name names) line (around names, Some (other line))
  event_stays : {lines : List Line} {line : Bytes} {parts : LineParts} → IsProperty line parts → list_any (is_second lines (line, Some parts)) singles ≡ false
      → Move singles (event lines []) line (event (lines ++ (line, Some parts) ∷ []) [], None)
  event_enters : {lines : List Line} {names : List Bytes} {name line : Bytes} → IsBegin name line
      → Move singles (event lines names) line (event (lines ++ other_line line ∷ []) (name ∷ names), None)
  event_leaves : {lines : List Line} {line : Bytes} → IsEnd event_name line
      → Move singles (event lines []) line (calendar true, Some (item (record { lines = lines; end = line })))
  inner_stays : {lines : List Line} {names : List Bytes} {name line : Bytes} {parts : LineParts} → IsProperty line parts
      → Move singles (event lines (name ∷ names)) line (event (lines ++ other_line line ∷ []) (name ∷ names), None)
  inner_leaves : {lines : List Line} {names : List Bytes} {name line : Bytes} → IsEnd name line
      → Move singles (event lines (name ∷ names)) line (event (lines ++ other_line line ∷ []) names, None)

so : (holds : Bool) (x : Option Step) (y : Step) → if_so holds x ≡ Some y → (holds ≡ true) × (x ≡ Some y)
so true x y e = (refl, e)
so false x y e = absurd (none-some y e)

module _ (singles : Shown) (line : Bytes) where
  -- the step that is known
  by : (from : Place) (a b : Step) → Some a ≡ Some b → Move singles from line a → Move singles from line b
  by from a b e m = subst (λ (s : Step). Move singles from line s) (same_Some a b e) m

  ended_as : (name wanted : Bytes) → IsEnd name line → is_same name wanted ≡ true → IsEnd wanted line
  ended_as name wanted e same = same_behind line end_front name wanted e same

  from_calendar : (told : Bool) (kind : Kind) (step : Step) → IsKind line kind → next singles (calendar told) line kind ≡ Some step
      → Move singles (calendar told) line step
  from_calendar told (property parts) step is e = by (calendar told) (calendar (told || is_version line), Some (other line)) step e (stays is)
  from_calendar false (begin name) step is e = absurd (none-some step e)
  from_calendar true (begin name) step is e = go (is_same name event_name) refl e
    where
      go : (b : Bool) → is_same name event_name ≡ b → cond b (Some (event (other_line line ∷ []) [], None)) (Some (component name [], Some (other line))) ≡ Some step
          → Move singles (calendar true) line step
      go true same f =
          by (calendar true) (event (other_line line ∷ []) [], None) step f (enters_event (same_behind line begin_front name event_name is.0 same))
      go false same f = by (calendar true) (component name [], Some (other line)) step f (enters is.0 same)
  from_calendar false (end name) step is e = absurd (none-some step e)
  from_calendar true (end name) step is e =
      let s = so (is_same name calendar_name) (Some (behind, None)) step e in
      by (calendar true) (behind, None) step s.1 (leaves (ended_as name calendar_name is.0 s.0))

  from_component : (name : Bytes) (names : List Bytes) (kind : Kind) (step : Step) → IsKind line kind → next singles (component name names) line kind ≡ Some step
      → Move singles (component name names) line step
  from_component name names (begin inner) step is e =
      by (component name names) (component inner (name ∷ names), Some (other line)) step e (component_enters is.0)
  from_component name names (end ended) step is e =
      let s = so (is_same ended name) (Some (around names, Some (other line))) step e in
      by (component name names) (around names, Some (other line)) step s.1 (component_leaves (ended_as ended name is.0 s.0))
  from_component name names (property parts) step is e = by (component name names) (component name names, Some (other line)) step e (component_stays is)

  from_event : (lines : List Line) (kind : Kind) (step : Step) → IsKind line kind → next singles (event lines []) line kind ≡ Some step
      → Move singles (event lines []) line step
  from_event lines (begin name) step is e = by (event lines []) (event (lines ++ other_line line ∷ []) (name ∷ []), None) step e (event_enters is.0)
  from_event lines (end name) step is e =
      let s = so (is_same name event_name) (Some (calendar true, Some (item (record { lines = lines; end = line })))) step e in
      by (event lines []) (calendar true, Some (item (record { lines = lines; end = line }))) step s.1 (event_leaves (ended_as name event_name is.0 s.0))
  from_event lines (property parts) step is e = go (list_any (is_second lines (line, Some parts)) singles) refl e
    where
      go : (b : Bool) → list_any (is_second lines (line, Some parts)) singles ≡ b → cond b None (with_line lines (line, Some parts) []) ≡ Some step
          → Move singles (event lines []) line step
      go true second f = absurd (none-some step f)
      go false second f = by (event lines []) (event (lines ++ (line, Some parts) ∷ []) [], None) step f (event_stays is second)

  from_inner : (lines : List Line) (name : Bytes) (names : List Bytes) (kind : Kind) (step : Step) → IsKind line kind
      → next singles (event lines (name ∷ names)) line kind ≡ Some step → Move singles (event lines (name ∷ names)) line step
  from_inner lines name names (begin inner) step is e =
      by (event lines (name ∷ names)) (event (lines ++ other_line line ∷ []) (inner ∷ name ∷ names), None) step e (event_enters is.0)
  from_inner lines name names (end ended) step is e =
      let s = so (is_same ended name) (with_line lines (other_line line) names) step e in
      by (event lines (name ∷ names)) (event (lines ++ other_line line ∷ []) names, None) step s.1 (inner_leaves (ended_as ended name is.0 s.0))
  from_inner lines name names (property parts) step is e =
      by (event lines (name ∷ names)) (event (lines ++ other_line line ∷ []) (name ∷ names), None) step e (inner_stays is)

  pub moved : (from : Place) (kind : Kind) (step : Step) → IsKind line kind → next singles from line kind ≡ Some step → Move singles from line step
  moved before (begin name) step is e =
      let s = so (is_same name calendar_name) (Some (calendar false, Some (other line))) step e in
      by before (calendar false, Some (other line)) step s.1 (starts (same_behind line begin_front name calendar_name is.0 s.0))
  moved before (end name) step is e = absurd (none-some step e)
  moved before (property parts) step is e = absurd (none-some step e)
  moved behind kind step is e = absurd (none-some step e)
  moved (calendar told) kind step is e = from_calendar told kind step is e
  moved (event lines []) kind step is e = from_event lines kind step is e
  moved (event lines (name ∷ names)) kind step is e = from_inner lines name names kind step is e
  moved (component name names) kind step is e = from_component name names kind step is e
