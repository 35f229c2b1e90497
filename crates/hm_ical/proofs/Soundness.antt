-- Lines that lead to the end are those of a calendar with the pieces behind them.
use Rattle.std.proofs.Common.{◌≡◌, Bool, true, false, not, ◌&&◌, ◌||◌, List, [], ◌∷◌, ◌++◌, map, Some, refl, sym, ap, ◌∙◌, subst, arith}
use Rattle.std.specs.Prelude.{All, option_to_list}
use Rattle.std.specs.List.{flat_map, list_any}
use Rattle.std.proofs.lemmas.List.{append_assoc, append-nil}
use Rattle.std.proofs.lemmas.List.Elements.{All-push, All-nil, All-cons}
use Rattle.hm_lines.specs.declared.content.LineParts.{LineParts}
use Rattle.hm_book_cards.specs.Cards.{Shown}
use Rattle.hm_lines_cards.specs.Lines.{Line, IsLine, AreFew, is_second}
use Rattle.hm_lines_cards.specs.Lent.{plain}
use Rattle.hm_lines_cards.proofs.Laws.{few_more}
use Rattle.hm_lines_files.specs.Components.{Bytes, Component, Piece, other, item, piece_lines}
use Rattle.hm_ical.specs.Lines.{is_same, IsBegin, IsEnd, IsProperty}
use Rattle.hm_ical.specs.Events.{event_name, other_line, singles, AreOwn, IsEvent}
use Rattle.hm_ical.specs.Events as own
use Rattle.hm_ical.specs.Calendars.{calendar_name, IsBody, IsCalendar}
use Rattle.hm_ical.specs.Calendars as body
use Rattle.hm_ical.specs.Scanning.{Place, before, behind, calendar, event, component, around, Step, Runs, AreSound}
use Rattle.hm_ical.proofs.Moves.{Move, starts, stays, enters_event, enters, leaves, component_stays, component_enters, component_leaves, event_stays, event_enters, event_leaves, inner_stays, inner_leaves, moved}
use Rattle.hm_ical.proofs.Rests.{plain_others, plain_append, lines_others, Closes, closed, closed_none, closes_property, closes_end, closes_one, closes_begin, component_is, InCalendar, InComponent, InEvent, Rest, IsFine}

-- lines are those of a calendar with these pieces
pub record IsRead (shown : Shown) (lines : List Bytes) (pieces : List Piece) : Type 0 where
  pub end : Bytes
  pub has : IsCalendar shown (record { pieces = pieces; end = end ∷ [] })
  pub are : lines ≡ flat_map piece_lines pieces ++ end ∷ []

-- the lines of an event and what follows
event_lines : (so_far : List Line) (closing : List Bytes) (inside : List Line) (end : Bytes) (more last : List Bytes)
    → plain so_far ++ (closing ++ (plain inside ++ end ∷ (more ++ last))) ≡ ((plain (so_far ++ (map other_line closing ++ inside)) ++ end ∷ []) ++ more) ++ last
event_lines so_far closing inside end more last =
    let whole : plain (so_far ++ (map other_line closing ++ inside)) ≡ plain so_far ++ (closing ++ plain inside)
    = plain_append so_far (map other_line closing ++ inside)
    ∙ ap (λ (l : List Bytes). plain so_far ++ l) (plain_append (map other_line closing) inside ∙ ap (λ (l : List Bytes). l ++ plain inside) (plain_others closing)) in
    sym (ap (λ (l : List Bytes). ((l ++ end ∷ []) ++ more) ++ last) whole ∙ simp append_assoc)

module _ (shown : Shown) (line : Bytes) (rest : List Bytes) (more : List Piece) where
  back_enters_event : IsBegin event_name line → InEvent shown (other_line line ∷ []) [] rest more → InCalendar shown true (line ∷ rest) more
  back_enters_event e r =
      let c : Component = record { lines = other_line line ∷ (map other_line r.closing ++ r.own); end = r.end } in
      let is : IsEvent shown c = record {
        begin = line;
        own = r.own;
        begins = e;
        inside = r.inside;
        are = ap (λ (l : List Bytes). other_line line ∷ (map other_line l ++ r.own)) (closed_none r.closes);
        ends = r.ends;
        few = r.few;
      } in
      record {
        end = r.then.end;
        inside = subst (λ (ps : List Piece). IsBody shown true ps) (sym r.pieces_are) (body.event is r.then.inside);
        ends = r.then.ends;
        are = ap (λ (l : List Bytes). line ∷ l) (r.are ∙ ap (λ (l : List Bytes). r.closing ++ (plain r.own ++ r.end ∷ l)) r.then.are)
            ∙ event_lines (other_line line ∷ []) r.closing r.own r.end (flat_map piece_lines r.more) (r.then.end ∷ [])
            ∙ ap (λ (ps : List Piece). flat_map piece_lines ps ++ r.then.end ∷ []) (sym r.pieces_are);
      }

  back_enters : (name : Bytes) → IsBegin name line → is_same name event_name ≡ false → InComponent shown (name ∷ []) rest more
      → InCalendar shown true (line ∷ rest) (other line ∷ more)
  back_enters name e differs r = record {
    end = r.then.end;
    inside = subst (λ (ps : List Piece). IsBody shown true (other line ∷ ps)) (sym r.pieces_are)
        (body.component name (component_is e (closes_one r.closes)) differs r.then.inside);
    ends = r.then.ends;
    are = ap (λ (l : List Bytes). line ∷ l)
        (r.are ∙ ap (λ (l : List Bytes). r.closing ++ l) r.then.are ∙ sym (append_assoc r.closing (flat_map piece_lines r.more) (r.then.end ∷ []))
        ∙ ap (λ (l : List Bytes). l ++ r.then.end ∷ []) (sym (lines_others r.closing r.more) ∙ ap (flat_map piece_lines) (sym r.pieces_are)));
  }

  back_leaves : IsEnd calendar_name line → (rest ≡ []) × (more ≡ []) → InCalendar shown true (line ∷ rest) more
  back_leaves e r = record {
    end = line;
    inside = subst (λ (ps : List Piece). IsBody shown true ps) (sym r.1) body.ends;
    ends = e;
    are = ap (λ (l : List Bytes). line ∷ l) r.0 ∙ ap (λ (ps : List Piece). flat_map piece_lines ps ++ line ∷ []) (sym r.1);
  }

  deeper : (names others : List Bytes) (r : InComponent shown names rest more) → Closes others (line ∷ r.closing)
      → InComponent shown others (line ∷ rest) (other line ∷ more)
  deeper names others r how = record {
    closing = line ∷ r.closing;
    others = r.others;
    more = r.more;
    closes = how;
    then = r.then;
    are = ap (λ (l : List Bytes). line ∷ l) r.are;
    pieces_are = ap (λ (ps : List Piece). other line ∷ ps) r.pieces_are;
  }

  back_component_leaves : (name : Bytes) (names : List Bytes) → IsEnd name line → Rest shown (around names) rest more
      → InComponent shown (name ∷ names) (line ∷ rest) (other line ∷ more)
  back_component_leaves name [] e r = record {
    closing = line ∷ [];
    others = rest;
    more = more;
    closes = closes_end e closed;
    then = r;
    are = refl;
    pieces_are = refl;
  }
  back_component_leaves name (n ∷ names) e r = deeper (n ∷ names) (name ∷ n ∷ names) r (closes_end e r.closes)

  module _ (lines : List Line) where
    back_event_stays : (parts : LineParts) → IsProperty line parts → InEvent shown (lines ++ (line, Some parts) ∷ []) [] rest more → InEvent shown lines [] (line ∷ rest) more
    back_event_stays parts is r =
        let moved = append_assoc lines ((line, Some parts) ∷ []) (map other_line r.closing ++ r.own)
        ∙ ap (λ (l : List Bytes). lines ++ (line, Some parts) ∷ (map other_line l ++ r.own)) (closed_none r.closes) in
        record {
          closing = [];
          own = (line, Some parts) ∷ r.own;
          end = r.end;
          others = r.others;
          more = r.more;
          closes = closed;
          inside = own.property is r.inside;
          ends = r.ends;
          few = subst (AreFew (singles shown)) moved r.few;
          then = r.then;
          are = ap (λ (l : List Bytes). line ∷ l) (r.are ∙ ap (λ (l : List Bytes). l ++ (plain r.own ++ r.end ∷ r.others)) (closed_none r.closes));
          pieces_are = r.pieces_are ∙ ap (λ (ls : List Line). item (record { lines = ls; end = r.end }) ∷ r.more) moved;
        }

    inner : (names others : List Bytes) (r : InEvent shown (lines ++ other_line line ∷ []) names rest more) → Closes others (line ∷ r.closing)
        → InEvent shown lines others (line ∷ rest) more
    inner names others r how =
        let moved = append_assoc lines (other_line line ∷ []) (map other_line r.closing ++ r.own) in
        record {
          closing = line ∷ r.closing;
          own = r.own;
          end = r.end;
          others = r.others;
          more = r.more;
          closes = how;
          inside = r.inside;
          ends = r.ends;
          few = subst (AreFew (singles shown)) moved r.few;
          then = r.then;
          are = ap (λ (l : List Bytes). line ∷ l) r.are;
          pieces_are = r.pieces_are ∙ ap (λ (ls : List Line). item (record { lines = ls; end = r.end }) ∷ r.more) moved;
        }

    back_event_enters : (name : Bytes) (names : List Bytes) → IsBegin name line → InEvent shown (lines ++ other_line line ∷ []) (name ∷ names) rest more
        → InEvent shown lines names (line ∷ rest) more
    back_event_enters name [] e r =
        let moved = append_assoc lines (other_line line ∷ []) (map other_line r.closing ++ r.own) in
        let all : plain (map other_line r.closing ++ r.own) ≡ r.closing ++ plain r.own
        = plain_append (map other_line r.closing) r.own ∙ ap (λ (l : List Bytes). l ++ plain r.own) (plain_others r.closing) in
        record {
          closing = [];
          own = other_line line ∷ (map other_line r.closing ++ r.own);
          end = r.end;
          others = r.others;
          more = r.more;
          closes = closed;
          inside = own.component name (component_is e (closes_one r.closes)) r.inside;
          ends = r.ends;
          few = subst (AreFew (singles shown)) moved r.few;
          then = r.then;
          are = ap (λ (l : List Bytes). line ∷ l)
              (r.are ∙ sym (append_assoc r.closing (plain r.own) (r.end ∷ r.others)) ∙ ap (λ (l : List Bytes). l ++ r.end ∷ r.others) (sym all));
          pieces_are = r.pieces_are ∙ ap (λ (ls : List Line). item (record { lines = ls; end = r.end }) ∷ r.more) moved;
        }
    back_event_enters name (n ∷ names) e r = inner (name ∷ n ∷ names) (n ∷ names) r (closes_begin n name line names r.closing e r.closes)

    back_event_leaves : AreFew (singles shown) lines → IsEnd event_name line → InCalendar shown true rest more
        → InEvent shown lines [] (line ∷ rest) (item (record { lines = lines; end = line }) ∷ more)
    back_event_leaves few e r = record {
      closing = [];
      own = [];
      end = line;
      others = rest;
      more = more;
      closes = closed;
      inside = own.nothing;
      ends = e;
      few = subst (AreFew (singles shown)) (sym (append-nil lines)) few;
      then = r;
      are = refl;
      pieces_are = ap (λ (ls : List Line). item (record { lines = ls; end = line }) ∷ more) (sym (append-nil lines));
    }

-- one line more in front
back : (shown : Shown) (from : Place) (line : Bytes) (step : Step) (rest : List Bytes) (more : List Piece) → IsFine (singles shown) from → Move (singles shown) from line step
    → Rest shown step.0 rest more → Rest shown from (line ∷ rest) (option_to_list step.1 ++ more)
back shown from line step rest more fine (starts e) r = record {
  begin = line;
  others = rest;
  body = more;
  begins = e;
  then = r;
  are = refl;
  pieces_are = refl;
}
back shown from line step rest more fine (stays is) r = record {
  end = r.end;
  inside = body.property is r.inside;
  ends = r.ends;
  are = ap (λ (l : List Bytes). line ∷ l) r.are;
}
back shown from line step rest more fine (enters_event e) r = back_enters_event shown line rest more e r
back shown from line step rest more fine (enters {name = name} e differs) r = back_enters shown line rest more name e differs r
back shown from line step rest more fine (leaves e) r = back_leaves shown line rest more e r
back shown from line step rest more fine (component_stays {name = name} {names = names} is) r =
    deeper shown line rest more (name ∷ names) (name ∷ names) r (closes_property is r.closes)
back shown from line step rest more fine (component_enters {name = name} {inner = inner} {names = names} e) r =
    deeper shown line rest more (inner ∷ name ∷ names) (name ∷ names) r (closes_begin name inner line names r.closing e r.closes)
back shown from line step rest more fine (component_leaves {name = name} {names = names} e) r = back_component_leaves shown line rest more name names e r
back shown from line step rest more fine (event_stays {lines = lines} {parts = parts} is second) r = back_event_stays shown line rest more lines parts is r
back shown from line step rest more fine (event_enters {lines = lines} {names = names} {name = name} e) r = back_event_enters shown line rest more lines name names e r
back shown from line step rest more fine (event_leaves {lines = lines} e) r = back_event_leaves shown line rest more lines fine.1 e r
back shown from line step rest more fine (inner_stays {lines = lines} {names = names} {name = name} is) r =
    inner shown line rest more lines (name ∷ names) (name ∷ names) r (closes_property is r.closes)
back shown from line step rest more fine (inner_leaves {lines = lines} {names = names} {name = name} e) r =
    inner shown line rest more lines names (name ∷ names) r (closes_end e r.closes)

-- ---- what lines lead to is fine

none_few : (properties : Shown) (line : Bytes) → AreFew properties (other_line line ∷ [])
none_few properties line = λ i d lt e. omega arith

none_second : (properties : Shown) (lines : List Line) (line : Bytes) → list_any (is_second lines (other_line line)) properties ≡ false
none_second [] lines line = refl
none_second (p ∷ properties) lines line = go p.1 (none_second properties lines line)
  where
    go : (many : Bool) → list_any (is_second lines (other_line line)) properties ≡ false → ((not many && false) || list_any (is_second lines (other_line line)) properties) ≡ false
    go true e = e
    go false e = e

module _ (few : Shown) where
  with_other : (lines : List Line) (line : Bytes) → All IsLine lines × AreFew few lines → All IsLine (lines ++ other_line line ∷ []) × AreFew few (lines ++ other_line line ∷ [])
  with_other lines line fine =
      (All-push IsLine lines (other_line line) fine.0 tt, few_more lines (other_line line) few (none_second few lines line) fine.1)

  around_fine : (names : List Bytes) → IsFine few (around names)
  around_fine [] = tt
  around_fine (name ∷ names) = tt

  pub fine_more : (from : Place) (line : Bytes) (step : Step) → IsFine few from → Move few from line step → IsFine few step.0
  fine_more from line step fine (starts e) = tt
  fine_more from line step fine (stays is) = tt
  fine_more from line step fine (enters_event e) = (All-cons IsLine (other_line line) [] tt (All-nil IsLine), none_few few line)
  fine_more from line step fine (enters e differs) = tt
  fine_more from line step fine (leaves e) = tt
  fine_more from line step fine (component_stays is) = tt
  fine_more from line step fine (component_enters e) = tt
  fine_more from line step fine (component_leaves {names = names} e) = around_fine names
  fine_more from line step fine (event_stays {lines = lines} {parts = parts} is second) =
      (All-push IsLine lines (line, Some parts) fine.0 is.content, few_more lines (line, Some parts) few second fine.1)
  fine_more from line step fine (event_enters {lines = lines} e) = with_other lines line fine
  fine_more from line step fine (event_leaves e) = tt
  fine_more from line step fine (inner_stays {lines = lines} is) = with_other lines line fine
  fine_more from line step fine (inner_leaves {lines = lines} e) = with_other lines line fine

  pub runs_fine : (lines : List Bytes) (from to : Place) (pieces : List Piece) → IsFine few from → Runs few from lines pieces to → IsFine few to
  runs_fine [] from to pieces fine run = subst (IsFine few) run.0 fine
  runs_fine (line ∷ lines) from to pieces fine (step, more, goes, rest, are) =
      runs_fine lines step.0 to more (fine_more from line step fine (moved few line from goes.kind step goes.is goes.leads)) rest

  sound : (place : Place) → IsFine few place → AreSound place
  sound before fine = tt
  sound behind fine = tt
  sound (calendar told) fine = tt
  sound (event lines names) fine = fine.0
  sound (component name names) fine = tt

  pub runs_sound : (lines : List Bytes) (pieces : List Piece) (to : Place) → Runs few before lines pieces to → AreSound to
  runs_sound lines pieces to run = sound to (runs_fine lines before to pieces tt run)

-- ---- lines that lead to the end

pub runs_rest : (shown : Shown) (lines : List Bytes) (from : Place) (pieces : List Piece) → IsFine (singles shown) from → Runs (singles shown) from lines pieces behind
    → Rest shown from lines pieces
runs_rest shown [] from pieces fine run = subst (λ (p : Place). Rest shown p [] pieces) (sym run.0) (refl, run.1)
runs_rest shown (line ∷ lines) from pieces fine (step, more, goes, rest, are) =
    let move = moved (singles shown) line from goes.kind step goes.is goes.leads in
    subst (λ (ps : List Piece). Rest shown from (line ∷ lines) ps) (sym are)
    (back shown from line step lines more fine move
    (runs_rest shown lines step.0 more (fine_more (singles shown) from line step fine move) rest))

pub runs_calendar : (shown : Shown) (lines : List Bytes) (pieces : List Piece) → Runs (singles shown) before lines pieces behind → IsRead shown lines pieces
runs_calendar shown lines pieces run =
    let file = runs_rest shown lines before pieces tt run in
    let inside = file.then in
    record {
      end = inside.end;
      has = record {
        begin = file.begin;
        body = file.body;
        end = inside.end;
        begins = file.begins;
        inside = inside.inside;
        ends = inside.ends;
        pieces_are = file.pieces_are;
        end_is = refl;
      };
      are = file.are ∙ ap (λ (l : List Bytes). file.begin ∷ l) inside.are ∙ ap (λ (ps : List Piece). flat_map piece_lines ps ++ inside.end ∷ []) (sym file.pieces_are);
    }
