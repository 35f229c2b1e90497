-- The lines of events have the parts that they say, and none of a calendar's lines is empty.
use Rattle.std.proofs.Common.{◌≡◌, Bool, List, [], ◌∷◌, get_or, map, Some, sym, subst, arith}
use Rattle.std.specs.Prelude.{All}
use Rattle.std.proofs.lemmas.List.{length-map, get_or-map}
use Rattle.std.proofs.lemmas.List.Elements.{All-nil, All-cons, All-append}
use Rattle.hm_book_cards.specs.Cards.{Shown}
use Rattle.hm_lines_cards.specs.Lines.{Line, IsLine}
use Rattle.hm_lines_files.specs.Components.{Bytes, Component, Piece, other, item}
use Rattle.hm_lines_files.specs.declared.component.Piece.{Piece as LentPiece}
use Rattle.hm_lines_files.specs.declared.component.Piece.TheVariants as lent_piece
use Rattle.hm_lines_files.specs.Lent.{piece_of, pieces_of, HasLines, HaveLines}
use Rattle.hm_ical.specs.Events.{other_line, AreOwn, nothing, property, component, IsEvent}
use Rattle.hm_ical.specs.Calendars.{IsBody, IsCalendar}
use Rattle.hm_ical.specs.Calendars as body
use Rattle.hm_ical.proofs.Places.{are_lines}

others_lines : (ls : List Bytes) → All IsLine (map other_line ls)
others_lines [] = All-nil IsLine
others_lines (l ∷ ls) = All-cons IsLine (other_line l) (map other_line ls) tt (others_lines ls)

pub own_lines : {lines : List Line} → AreOwn lines → All IsLine lines
own_lines nothing = All-nil IsLine
own_lines (property {line = line} {parts = parts} {lines = lines} is rest) = All-cons IsLine (line, Some parts) lines is.content (own_lines rest)
own_lines (component {inner = inner} {lines = lines} name c rest) = All-append IsLine (map other_line inner) lines (others_lines inner) (own_lines rest)

pub event_are_lines : (shown : Shown) (c : Component) → IsEvent shown c → All IsLine c.lines
event_are_lines shown c is = subst (All IsLine) (sym is.are) (All-cons IsLine (other_line is.begin) is.own tt (own_lines is.inside))

-- ---- the pieces of a calendar

abbrev pub AreOfLines : Piece → Type 0
AreOfLines (other line) = Unit {0}
AreOfLines (item c) = All IsLine c.lines

others_pieces : (ls : List Bytes) → All AreOfLines (map other ls)
others_pieces [] = All-nil AreOfLines
others_pieces (l ∷ ls) = All-cons AreOfLines (other l) (map other ls) tt (others_pieces ls)

body_pieces : {shown : Shown} {told : Bool} {ps : List Piece} → IsBody shown told ps → All AreOfLines ps
body_pieces body.ends = All-nil AreOfLines
body_pieces (body.property {line = line} {ps = ps} is rest) = All-cons AreOfLines (other line) ps tt (body_pieces rest)
body_pieces (body.component {lines = lines} {ps = ps} name c differs rest) = All-append AreOfLines (map other lines) ps (others_pieces lines) (body_pieces rest)
body_pieces {shown = shown} (body.event {c = c} {ps = ps} is rest) = All-cons AreOfLines (item c) ps (event_are_lines shown c is) (body_pieces rest)

lent_lines : (p : LentPiece) → AreOfLines (piece_of p) → HasLines p
lent_lines (lent_piece.Other line) all = tt
lent_lines (lent_piece.Item c) all = are_lines c.lines.items all

-- as the code has them
pub have_lines : (shown : Shown) (told : Bool) (begin : Bytes) (ps : List LentPiece) (body : List Piece) → IsBody shown told body → pieces_of ps ≡ other begin ∷ body → HaveLines ps
have_lines shown told begin ps body is same = λ i d lt.
    let long = length-map ps piece_of in
    let all = subst (All AreOfLines) (sym same) (All-cons AreOfLines (other begin) body tt (body_pieces is)) in
    lent_lines (get_or ps i d) (subst AreOfLines (get_or-map piece_of ps i d (piece_of d) lt) (all i (piece_of d) (omega (arith, lt, long))))
