-- No line of a calendar is empty, and none begins with a blank.
use Rattle.std.proofs.Common.{◌≡◌, true, false, List, [], ◌∷◌}
use Rattle.std.specs.Prelude.{All}
use Rattle.std.proofs.lemmas.List.Elements.{All-nil, All-cons}
use Rattle.hm_lines.specs.declared.content.LineParts.{LineParts}
use Rattle.hm_lines.specs.Content.{IsContentLine}
use Rattle.hm_lines.specs.Unfolding.{begins_with_blank}
use Rattle.hm_lines.proofs.Laws.{content_no_blank}
use Rattle.hm_book_cards.specs.Cards.{Shown}
use Rattle.hm_lines_files.specs.Components.{Bytes, Piece, Layout, all_lines}
use Rattle.hm_lines_files.specs.Forms.{is_full}
use Rattle.hm_ical.specs.Events.{singles}
use Rattle.hm_ical.specs.Calendars.{IsCalendar}
use Rattle.hm_ical.specs.Scanning.{Kind, begin, end, property, IsKind, Place, before, behind, Runs}
use Rattle.hm_ical.proofs.LineKinds.{begin_named, end_named}
use Rattle.hm_ical.proofs.Completeness.{calendar_runs}
use Rattle.hm_lines_files.proofs.ContentLines.{content_full}

-- a line of a calendar is a content line
pub record IsContent (line : Bytes) : Type 0 where
  pub parts : LineParts
  pub is : IsContentLine line parts

content_of : (line : Bytes) (kind : Kind) → IsKind line kind → IsContent line
content_of line (begin name) is = let n = begin_named line name is.0 in record { parts = n.parts; is = n.content }
content_of line (end name) is = let n = end_named line name is.0 in record { parts = n.parts; is = n.content }
content_of line (property parts) is = record { parts = parts; is = is.content }

runs_content : (few : Shown) (lines : List Bytes) (from to : Place) (pieces : List Piece) → Runs few from lines pieces to → All IsContent lines
runs_content few [] from to pieces run = All-nil IsContent
runs_content few (line ∷ lines) from to pieces (step, more, goes, rest, are) =
    All-cons IsContent line lines (content_of line goes.kind goes.is) (runs_content few lines step.0 to more rest)

module _ (shown : Shown) (l : Layout) (is : IsCalendar shown l) where
  contents : All IsContent (all_lines l)
  contents = runs_content (singles shown) (all_lines l) before behind l.pieces (calendar_runs shown l is)

  pub lines_full : All (λ line. is_full line ≡ true) (all_lines l)
  lines_full i d lt = let c = contents i d lt in content_full _ c.parts c.is

  pub lines_no_blank : All (λ line. begins_with_blank line ≡ false) (all_lines l)
  lines_no_blank i d lt = let c = contents i d lt in content_no_blank _ c.parts c.is
