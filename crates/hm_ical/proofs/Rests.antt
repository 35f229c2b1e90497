-- What stands behind the lines that were read so far, where the last leads to the end.
use Rattle.std.proofs.Common.{◌≡◌, Bool, true, false, List, [], ◌∷◌, ◌++◌, map, refl, sym, ap, ◌∙◌, subst}
use Rattle.std.specs.Prelude.{All}
use Rattle.std.specs.List.{flat_map}
use Rattle.std.proofs.lemmas.List.{append_assoc, map-append}
use Rattle.hm_lines.specs.declared.content.LineParts.{LineParts}
use Rattle.hm_book_cards.specs.Cards.{Shown}
use Rattle.hm_lines_cards.specs.Lines.{Line, IsLine, AreFew}
use Rattle.hm_lines_cards.specs.Lent.{plain}
use Rattle.hm_lines_files.specs.Components.{Bytes, Piece, other, item, piece_lines}
use Rattle.hm_ical.specs.Lines.{IsBegin, IsEnd, IsProperty, AreInside, nothing, property, component, AreComponent}
use Rattle.hm_ical.specs.Events.{event_name, other_line, singles, AreOwn}
use Rattle.hm_ical.specs.Calendars.{calendar_name, IsBody}
use Rattle.hm_ical.specs.Scanning.{Place, before, behind, calendar, event, around, Step}
use Rattle.hm_ical.specs.Scanning as scan

-- ---- lists of lines

pub plain_others : (ls : List Bytes) → plain (map other_line ls) ≡ ls
plain_others [] = refl
plain_others (l ∷ ls) = ap (λ (xs : List Bytes). l ∷ xs) (plain_others ls)

pub plain_append : (xs ys : List Line) → plain (xs ++ ys) ≡ plain xs ++ plain ys
plain_append xs ys = map-append (λ (l : Line). l.0) xs ys

pub lines_others : (ls : List Bytes) (ps : List Piece) → flat_map piece_lines (map other ls ++ ps) ≡ ls ++ flat_map piece_lines ps
lines_others [] ps = refl
lines_others (l ∷ ls) ps = ap (λ (xs : List Bytes). l ∷ xs) (lines_others ls ps)

-- ---- lines that close components

-- what stands in components, the innermost first, and ends each
pub data Closes : List Bytes → List Bytes → Type 0 where
  closed : Closes [] []
  closes : {name : Bytes} {names inner rest : List Bytes} (end : Bytes) → AreInside inner → IsEnd name end → Closes names rest → Closes (name ∷ names) (inner ++ end ∷ rest)

pub closed_none : {lines : List Bytes} → Closes [] lines → lines ≡ []
closed_none closed = refl

pub closes_property : {name line : Bytes} {parts : LineParts} {names lines : List Bytes} → IsProperty line parts → Closes (name ∷ names) lines → Closes (name ∷ names) (line ∷ lines)
closes_property is (closes end inside ends rest) = closes end (property is inside) ends rest

pub closes_end : {name line : Bytes} {names lines : List Bytes} → IsEnd name line → Closes names lines → Closes (name ∷ names) (line ∷ lines)
closes_end {line = line} is rest = closes line nothing is rest

-- those of one component
pub record ClosesOne (name : Bytes) (lines : List Bytes) : Type 0 where
  pub inner : List Bytes
  pub end : Bytes
  pub inside : AreInside inner
  pub ends : IsEnd name end
  pub are : lines ≡ inner ++ end ∷ []

pub closes_one : {name : Bytes} {lines : List Bytes} → Closes (name ∷ []) lines → ClosesOne name lines
closes_one (closes {inner = inner} end inside ends rest) = record {
  inner = inner;
  end = end;
  inside = inside;
  ends = ends;
  are = ap (λ (xs : List Bytes). inner ++ end ∷ xs) (closed_none rest);
}

pub record ClosesFirst (name : Bytes) (names lines : List Bytes) : Type 0 where
  pub inner : List Bytes
  pub end : Bytes
  pub others : List Bytes
  pub inside : AreInside inner
  pub ends : IsEnd name end
  pub then : Closes names others
  pub are : lines ≡ inner ++ end ∷ others

closes_first : {name : Bytes} {names lines : List Bytes} → Closes (name ∷ names) lines → ClosesFirst name names lines
closes_first (closes {inner = inner} {rest = rest} end inside ends then) = record {
  inner = inner;
  end = end;
  others = rest;
  inside = inside;
  ends = ends;
  then = then;
  are = refl;
}

pub closes_begin : (name inner line : Bytes) (names lines : List Bytes) → IsBegin inner line → Closes (inner ∷ name ∷ names) lines → Closes (name ∷ names) (line ∷ lines)
closes_begin name inner line names lines is all =
    let one = closes_first all in
    let two = closes_first one.then in
    let whole : line ∷ lines ≡ (line ∷ (one.inner ++ one.end ∷ two.inner)) ++ two.end ∷ two.others
    = ap (λ (xs : List Bytes). line ∷ xs)
    (one.are ∙ ap (λ (xs : List Bytes). one.inner ++ one.end ∷ xs) two.are
    ∙ sym (append_assoc one.inner (one.end ∷ two.inner) (two.end ∷ two.others))) in
    subst (λ (xs : List Bytes). Closes (name ∷ names) xs) (sym whole)
    (closes two.end (component inner line one.end is one.inside one.ends two.inside) two.ends two.then)

pub component_is : {name line : Bytes} {lines : List Bytes} → IsBegin name line → ClosesOne name lines → AreComponent name (line ∷ lines)
component_is {line = line} is one = record {
  begin = line;
  inner = one.inner;
  end = one.end;
  begins = is;
  inside = one.inside;
  ends = one.ends;
  are = ap (λ (xs : List Bytes). line ∷ xs) one.are;
}

-- ---- what stands behind a place

pub record InCalendar (shown : Shown) (told : Bool) (lines : List Bytes) (pieces : List Piece) : Type 0 where
  pub end : Bytes
  pub inside : IsBody shown told pieces
  pub ends : IsEnd calendar_name end
  pub are : lines ≡ flat_map piece_lines pieces ++ end ∷ []

pub record InComponent (shown : Shown) (names lines : List Bytes) (pieces : List Piece) : Type 0 where
  pub closing : List Bytes
  pub others : List Bytes
  pub more : List Piece
  pub closes : Closes names closing
  pub then : InCalendar shown true others more
  pub are : lines ≡ closing ++ others
  pub pieces_are : pieces ≡ map other closing ++ more

pub record InEvent (shown : Shown) (so_far : List Line) (names lines : List Bytes) (pieces : List Piece) : Type 0 where
  pub closing : List Bytes
  pub own : List Line
  pub end : Bytes
  pub others : List Bytes
  pub more : List Piece
  pub closes : Closes names closing
  pub inside : AreOwn own
  pub ends : IsEnd event_name end
  pub few : AreFew (singles shown) (so_far ++ (map other_line closing ++ own))
  pub then : InCalendar shown true others more
  pub are : lines ≡ closing ++ (plain own ++ end ∷ others)
  pub pieces_are : pieces ≡ item (record { lines = so_far ++ (map other_line closing ++ own); end = end }) ∷ more

pub record InFile (shown : Shown) (lines : List Bytes) (pieces : List Piece) : Type 0 where
  pub begin : Bytes
  pub others : List Bytes
  pub body : List Piece
  pub begins : IsBegin calendar_name begin
  pub then : InCalendar shown false others body
  pub are : lines ≡ begin ∷ others
  pub pieces_are : pieces ≡ other begin ∷ body

abbrev pub Rest : Shown → Place → List Bytes → List Piece → Type 0
Rest shown before lines pieces = InFile shown lines pieces
Rest shown behind lines pieces = (lines ≡ []) × (pieces ≡ [])
Rest shown (calendar told) lines pieces = InCalendar shown told lines pieces
Rest shown (event so_far names) lines pieces = InEvent shown so_far names lines pieces
Rest shown (scan.component name names) lines pieces = InComponent shown (name ∷ names) lines pieces

-- the lines of an event are lines, and show no second text
abbrev pub IsFine : Shown → Place → Type 0
IsFine few before = Unit {0}
IsFine few behind = Unit {0}
IsFine few (calendar told) = Unit {0}
IsFine few (event so_far names) = All IsLine so_far × AreFew few so_far
IsFine few (scan.component name names) = Unit {0}
