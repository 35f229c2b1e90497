-- From each place some lines lead to the end.
use Rattle.std.proofs.Common.{Bool, true, false, codes, List, [], ◌∷◌, ◌++◌, Some, None, refl}
use Rattle.hm_lines.specs.declared.content.LineParts.{LineParts}
use Rattle.hm_lines.proofs.Laws.{new_line}
use Rattle.hm_book_cards.specs.Cards.{Shown}
use Rattle.hm_lines_cards.specs.Lines.{Line}
use Rattle.hm_lines_files.specs.Components.{Bytes, Piece, other, item}
use Rattle.hm_ical.specs.Lines.{end_front, IsProperty}
use Rattle.hm_ical.specs.Events.{other_line}
use Rattle.hm_ical.specs.Scanning.{Place, before, behind, calendar, event, component, Runs}
use Rattle.hm_ical.proofs.Fronts.{itself}
use Rattle.hm_ical.proofs.LineKinds.{letters}
use Rattle.hm_ical.proofs.Completeness.{end_component, end_inner, end_event, end_calendar, begin_calendar, property_goes, runs_more}
use Rattle.hm_ical.proofs.Runs.{runs_one}

pub record IsClosed (few : Shown) (from : Place) : Type 0 where
  pub lines : List Bytes
  pub pieces : List Piece
  pub run : Runs few from lines pieces behind

abbrev version_parts : LineParts
version_parts = record { name_from = 0; name_to = 7; value_from = 8 }

version_is : IsProperty (codes "VERSION:2.0") version_parts
version_is = record {
  content = new_line (codes "VERSION") (codes "2.0") (record { some = λ e. let bad : ⊥ = cc in bad; all = letters (codes "VERSION") refl });
  free = refl;
}

module _ (few : Shown) where
  close_told : IsClosed few (calendar true)
  close_told = record {
    lines = codes "END:VCALENDAR" ∷ [];
    pieces = [];
    run = runs_one few (calendar true) (codes "END:VCALENDAR") (behind, None) (end_calendar few (codes "END:VCALENDAR") refl);
  }

  close_calendar : (told : Bool) → IsClosed few (calendar told)
  close_calendar true = close_told
  close_calendar false =
      let rest = close_told in
      record {
        lines = codes "VERSION:2.0" ∷ rest.lines;
        pieces = other (codes "VERSION:2.0") ∷ rest.pieces;
        run = runs_more few (calendar false) behind (codes "VERSION:2.0") (calendar true, Some (other (codes "VERSION:2.0"))) rest.lines rest.pieces
            (property_goes few false (codes "VERSION:2.0") version_parts version_is) rest.run;
      }

  close_component : (name : Bytes) (names : List Bytes) → IsClosed few (component name names)
  close_component name [] =
      let rest = close_told in
      record {
        lines = (end_front ++ name) ∷ rest.lines;
        pieces = other (end_front ++ name) ∷ rest.pieces;
        run = runs_more few (component name []) behind (end_front ++ name) (calendar true, Some (other (end_front ++ name))) rest.lines rest.pieces
            (end_component few name (end_front ++ name) name [] (itself (end_front ++ name)) (itself name)) rest.run;
      }
  close_component name (n ∷ names) =
      let rest = close_component n names in
      record {
        lines = (end_front ++ name) ∷ rest.lines;
        pieces = other (end_front ++ name) ∷ rest.pieces;
        run = runs_more few (component name (n ∷ names)) behind (end_front ++ name) (component n names, Some (other (end_front ++ name))) rest.lines rest.pieces
            (end_component few name (end_front ++ name) name (n ∷ names) (itself (end_front ++ name)) (itself name)) rest.run;
      }

  close_event : (names : List Bytes) (so_far : List Line) → IsClosed few (event so_far names)
  close_event [] so_far =
      let rest = close_told in
      let line = codes "END:VEVENT" in
      record {
        lines = line ∷ rest.lines;
        pieces = item (record { lines = so_far; end = line }) ∷ rest.pieces;
        run = runs_more few (event so_far []) behind line (calendar true, Some (item (record { lines = so_far; end = line }))) rest.lines rest.pieces
            (end_event few so_far line refl) rest.run;
      }
  close_event (name ∷ names) so_far =
      let line = end_front ++ name in
      let rest = close_event names (so_far ++ other_line line ∷ []) in
      record {
        lines = line ∷ rest.lines;
        pieces = rest.pieces;
        run = runs_more few (event so_far (name ∷ names)) behind line (event (so_far ++ other_line line ∷ []) names, None) rest.lines rest.pieces
            (end_inner few so_far name line name names (itself line) (itself name)) rest.run;
      }

  pub close : (place : Place) → IsClosed few place
  close before =
      let rest = close_calendar false in
      let line = codes "BEGIN:VCALENDAR" in
      record {
        lines = line ∷ rest.lines;
        pieces = other line ∷ rest.pieces;
        run = runs_more few before behind line (calendar false, Some (other line)) rest.lines rest.pieces (begin_calendar few line refl) rest.run;
      }
  close behind = record { lines = []; pieces = []; run = (refl, refl) }
  close (calendar told) = close_calendar told
  close (event so_far names) = close_event names so_far
  close (component name names) = close_component name names
