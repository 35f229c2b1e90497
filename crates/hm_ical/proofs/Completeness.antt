-- The lines of a calendar lead to the end, with its pieces behind them.
use Rattle.std.proofs.Common.{◌≡◌, Bool, true, false, cond, ◌||◌, List, [], ◌∷◌, ◌++◌, map, length, get_or, drop, Some, None, refl, sym, ap, ◌∙◌, subst, arith}
use Rattle.std.specs.Prelude.{option_to_list}
use Rattle.std.specs.List.{flat_map, list_any}
use Rattle.std.proofs.lemmas.Bool.{false_from_ne_true}
use Rattle.std.proofs.lemmas.List.{append_assoc, append-nil, map-append, length-append}
use Rattle.std.proofs.lemmas.List.Elements.{filter_map-append}
use Rattle.hm_lines.specs.declared.content.LineParts.{LineParts}
use Rattle.hm_book_cards.specs.Cards.{Shown}
use Rattle.hm_lines_cards.specs.Lines.{Line, AreFew, is_second, text_shown, texts_of}
use Rattle.hm_lines_cards.specs.Lent.{plain}
use Rattle.hm_lines_cards.proofs.Laws.{many_then}
use Rattle.hm_lines_files.specs.Components.{Bytes, Component, Piece, other, item, piece_lines, lines_of, Layout, all_lines}
use Rattle.hm_ical.specs.Lines.{is_same, is_version, IsBegin, IsEnd, IsProperty, AreInside, nothing, property, component, AreComponent}
use Rattle.hm_ical.specs.Events.{event_name, other_line, singles, AreOwn, IsEvent}
use Rattle.hm_ical.specs.Events as own
use Rattle.hm_ical.specs.Calendars.{calendar_name, IsBody, IsCalendar}
use Rattle.hm_ical.specs.Calendars as body
use Rattle.hm_ical.specs.Scanning.{Place, before, behind, calendar, event, around, Step, Goes, Runs}
use Rattle.hm_ical.specs.Scanning as scan
use Rattle.hm_ical.proofs.Fronts.{turned, through, alike}
use Rattle.hm_ical.proofs.LineKinds.{begins, ends}
use Rattle.hm_ical.proofs.Runs.{runs_append, runs_one}
use Rattle.hm_ical.proofs.Rests.{plain_others, plain_append, lines_others}

-- the name that a line has as it's spelled
abbrev begun : Bytes → Bytes
begun line = drop 6 line

module _ (few : Shown) where
  -- ---- one line

  begin_component : (name line outer : Bytes) (names : List Bytes) → IsBegin name line
      → Goes few (scan.component outer names) line (scan.component (begun line) (outer ∷ names), Some (other line))
  begin_component name line outer names e = record { kind = scan.begin (begun line); is = (begins name line e).is; leads = refl }

  pub end_component : (name line outer : Bytes) (names : List Bytes) → IsEnd name line → is_same name outer ≡ true
      → Goes few (scan.component outer names) line (around names, Some (other line))
  end_component name line outer names e same = record {
    kind = scan.end (drop 4 line);
    is = (ends name line e).is;
    leads = ap (λ b. cond b (Some (around names, Some (other line))) None) (through (drop 4 line) name outer (ends name line e).same same);
  }

  begin_inner : (lines : List Line) (name line : Bytes) (names : List Bytes) → IsBegin name line
      → Goes few (event lines names) line (event (lines ++ other_line line ∷ []) (begun line ∷ names), None)
  begin_inner lines name line [] e = record { kind = scan.begin (begun line); is = (begins name line e).is; leads = refl }
  begin_inner lines name line (n ∷ names) e = record { kind = scan.begin (begun line); is = (begins name line e).is; leads = refl }

  pub end_inner : (lines : List Line) (name line outer : Bytes) (names : List Bytes) → IsEnd name line → is_same name outer ≡ true
      → Goes few (event lines (outer ∷ names)) line (event (lines ++ other_line line ∷ []) names, None)
  end_inner lines name line outer names e same = record {
    kind = scan.end (drop 4 line);
    is = (ends name line e).is;
    leads = ap (λ b. cond b (Some (event (lines ++ other_line line ∷ []) names, None)) None) (through (drop 4 line) name outer (ends name line e).same same);
  }

  pub end_event : (lines : List Line) (line : Bytes) → IsEnd event_name line
      → Goes few (event lines []) line (calendar true, Some (item (record { lines = lines; end = line })))
  end_event lines line e = record {
    kind = scan.end (drop 4 line);
    is = (ends event_name line e).is;
    leads = ap (λ b. cond b (Some (calendar true, Some (item (record { lines = lines; end = line })))) None) (ends event_name line e).same;
  }

  pub end_calendar : (line : Bytes) → IsEnd calendar_name line → Goes few (calendar true) line (behind, None)
  end_calendar line e = record {
    kind = scan.end (drop 4 line);
    is = (ends calendar_name line e).is;
    leads = ap (λ b. cond b (Some (behind, None)) None) (ends calendar_name line e).same;
  }

  pub begin_calendar : (line : Bytes) → IsBegin calendar_name line → Goes few before line (calendar false, Some (other line))
  begin_calendar line e = record {
    kind = scan.begin (begun line);
    is = (begins calendar_name line e).is;
    leads = ap (λ b. cond b (Some (calendar false, Some (other line))) None) (begins calendar_name line e).same;
  }

  pub property_goes : (told : Bool) (line : Bytes) (parts : LineParts) → IsProperty line parts → Goes few (calendar told) line (calendar (told || is_version line), Some (other line))
  property_goes told line parts is = record { kind = scan.property parts; is = is; leads = refl }

  enter : (name line : Bytes) → IsBegin name line → is_same name event_name ≡ false → Goes few (calendar true) line (scan.component (begun line) [], Some (other line))
  enter name line e differs = record {
    kind = scan.begin (begun line);
    is = (begins name line e).is;
    leads = ap (λ b. cond b (Some (event (other_line line ∷ []) [], None)) (Some (scan.component (begun line) [], Some (other line))))
        (alike (begun line) name event_name (begins name line e).same ∙ differs);
  }

  enter_event : (line : Bytes) → IsBegin event_name line → Goes few (calendar true) line (event (other_line line ∷ []) [], None)
  enter_event line e = record {
    kind = scan.begin (begun line);
    is = (begins event_name line e).is;
    leads = ap (λ b. cond b (Some (event (other_line line ∷ []) [], None)) (Some (scan.component (begun line) [], Some (other line)))) (begins event_name line e).same;
  }

  -- ---- what stands in a component

  -- the same lines, with an equal list of pieces behind them, to an equal place
  pub runs_as : (s t u : Place) (lines : List Bytes) (p q : List Piece) → Runs few s lines p t → p ≡ q → t ≡ u → Runs few s lines q u
  runs_as s t u lines p q run e f = subst (λ (x : Place). Runs few s lines q x) f (subst (λ (ps : List Piece). Runs few s lines ps t) e run)

  pub runs_more : (s t : Place) (line : Bytes) (step : Step) (lines : List Bytes) (p : List Piece) → Goes few s line step → Runs few step.0 lines p t
      → Runs few s (line ∷ lines) (option_to_list step.1 ++ p) t
  runs_more s t line step lines p goes run = (step, p, goes, run, refl)

  inside_runs : {lines : List Bytes} → AreInside lines → (outer : Bytes) (names : List Bytes)
      → Runs few (scan.component outer names) lines (map other lines) (scan.component outer names)
  inside_runs nothing outer names = (refl, refl)
  inside_runs (property {line = line} {parts = parts} {lines = lines} is rest) outer names =
      runs_more (scan.component outer names) (scan.component outer names) line (scan.component outer names, Some (other line)) lines (map other lines)
      (record { kind = scan.property parts; is = is; leads = refl }) (inside_runs rest outer names)
  inside_runs (component {inner = inner} {lines = lines} name begin end b inside e rest) outer names =
      let at = scan.component (begun begin) (outer ∷ names) in
      let last = runs_more at (scan.component outer names) end (scan.component outer names, Some (other end)) lines (map other lines)
      (end_component name end (begun begin) (outer ∷ names) e (turned (begun begin) name (begins name begin b).same)) (inside_runs rest outer names) in
      let behind = runs_append few inner (end ∷ lines) at at (scan.component outer names) (map other inner) (other end ∷ map other lines) (inside_runs inside (begun begin) (outer ∷ names)) last in
      runs_as (scan.component outer names) (scan.component outer names) (scan.component outer names) (begin ∷ (inner ++ end ∷ lines))
      (other begin ∷ (map other inner ++ other end ∷ map other lines)) (other begin ∷ map other (inner ++ end ∷ lines))
      (runs_more (scan.component outer names) (scan.component outer names) begin (at, Some (other begin)) (inner ++ end ∷ lines) (map other inner ++ other end ∷ map other lines)
      (begin_component name begin outer names b) behind)
      (ap (λ (ps : List Piece). other begin ∷ ps) (sym (map-append other inner (end ∷ lines)))) refl

  inner_lines : (so_far : List Line) (begin : Bytes) (inner : List Bytes) (end : Bytes) (lines : List Bytes)
      → (((so_far ++ other_line begin ∷ []) ++ map other_line inner) ++ other_line end ∷ []) ++ map other_line lines ≡ so_far ++ map other_line (begin ∷ (inner ++ end ∷ lines))
  inner_lines so_far begin inner end lines =
      simp append_assoc (ap (λ (ls : List Line). so_far ++ other_line begin ∷ ls) (sym (map-append other_line inner (end ∷ lines))))

  inside_inner : {lines : List Bytes} → AreInside lines → (so_far : List Line) (outer : Bytes) (names : List Bytes)
      → Runs few (event so_far (outer ∷ names)) lines [] (event (so_far ++ map other_line lines) (outer ∷ names))
  inside_inner nothing so_far outer names = (ap (λ (ls : List Line). event ls (outer ∷ names)) (sym (append-nil so_far)), refl)
  inside_inner (property {line = line} {parts = parts} {lines = lines} is rest) so_far outer names =
      let at = event (so_far ++ other_line line ∷ []) (outer ∷ names) in
      let last = event ((so_far ++ other_line line ∷ []) ++ map other_line lines) (outer ∷ names) in
      runs_as (event so_far (outer ∷ names)) last (event (so_far ++ map other_line (line ∷ lines)) (outer ∷ names)) (line ∷ lines) [] []
      (runs_more (event so_far (outer ∷ names)) last line (at, None) lines [] (record { kind = scan.property parts; is = is; leads = refl })
      (inside_inner rest (so_far ++ other_line line ∷ []) outer names))
      refl (ap (λ (ls : List Line). event ls (outer ∷ names)) (append_assoc so_far (other_line line ∷ []) (map other_line lines)))
  inside_inner (component {inner = inner} {lines = lines} name begin end b inside e rest) so_far outer names =
      let one = so_far ++ other_line begin ∷ [] in
      let two = one ++ map other_line inner in
      let three = two ++ other_line end ∷ [] in
      let last = runs_more (event two (begun begin ∷ outer ∷ names)) (event (three ++ map other_line lines) (outer ∷ names)) end (event three (outer ∷ names), None) lines []
      (end_inner two name end (begun begin) (outer ∷ names) e (turned (begun begin) name (begins name begin b).same)) (inside_inner rest three outer names) in
      let behind = runs_append few inner (end ∷ lines) (event one (begun begin ∷ outer ∷ names)) (event two (begun begin ∷ outer ∷ names))
      (event (three ++ map other_line lines) (outer ∷ names)) [] [] (inside_inner inside one (begun begin) (outer ∷ names)) last in
      runs_as (event so_far (outer ∷ names)) (event (three ++ map other_line lines) (outer ∷ names)) (event (so_far ++ map other_line (begin ∷ (inner ++ end ∷ lines))) (outer ∷ names))
      (begin ∷ (inner ++ end ∷ lines)) [] []
      (runs_more (event so_far (outer ∷ names)) (event (three ++ map other_line lines) (outer ∷ names)) begin (event one (begun begin ∷ outer ∷ names), None) (inner ++ end ∷ lines) []
      (begin_inner so_far name begin (outer ∷ names) b) behind)
      refl (ap (λ (ls : List Line). event ls (outer ∷ names)) (inner_lines so_far begin inner end lines))

  -- ---- whole components

  component_runs : (name : Bytes) (lines : List Bytes) → AreComponent name lines → is_same name event_name ≡ false
      → Runs few (calendar true) lines (map other lines) (calendar true)
  component_runs name lines c differs =
      let at = scan.component (begun c.begin) [] in
      let last = runs_one few at c.end (calendar true, Some (other c.end))
      (end_component name c.end (begun c.begin) [] c.ends (turned (begun c.begin) name (begins name c.begin c.begins).same)) in
      let behind = runs_append few c.inner (c.end ∷ []) at at (calendar true) (map other c.inner) (other c.end ∷ []) (inside_runs c.inside (begun c.begin) []) last in
      let whole = runs_as (calendar true) (calendar true) (calendar true) (c.begin ∷ (c.inner ++ c.end ∷ []))
      (other c.begin ∷ (map other c.inner ++ other c.end ∷ [])) (map other (c.begin ∷ (c.inner ++ c.end ∷ [])))
      (runs_more (calendar true) (calendar true) c.begin (at, Some (other c.begin)) (c.inner ++ c.end ∷ []) (map other c.inner ++ other c.end ∷ [])
      (enter name c.begin c.begins differs) behind)
      (ap (λ (ps : List Piece). other c.begin ∷ ps) (sym (map-append other c.inner (c.end ∷ [])))) refl in
      subst (λ (ls : List Bytes). Runs few (calendar true) ls (map other ls) (calendar true)) (sym c.are) whole

  component_inner : (name : Bytes) (lines : List Bytes) → AreComponent name lines → (so_far : List Line)
      → Runs few (event so_far []) lines [] (event (so_far ++ map other_line lines) [])
  component_inner name lines c so_far =
      let one = so_far ++ other_line c.begin ∷ [] in
      let two = one ++ map other_line c.inner in
      let three = two ++ other_line c.end ∷ [] in
      let last = runs_one few (event two (begun c.begin ∷ [])) c.end (event three [], None)
      (end_inner two name c.end (begun c.begin) [] c.ends (turned (begun c.begin) name (begins name c.begin c.begins).same)) in
      let behind = runs_append few c.inner (c.end ∷ []) (event one (begun c.begin ∷ [])) (event two (begun c.begin ∷ [])) (event three []) [] []
      (inside_inner c.inside one (begun c.begin) []) last in
      let whole = runs_as (event so_far []) (event three []) (event (so_far ++ map other_line (c.begin ∷ (c.inner ++ c.end ∷ []))) []) (c.begin ∷ (c.inner ++ c.end ∷ [])) [] []
      (runs_more (event so_far []) (event three []) c.begin (event one (begun c.begin ∷ []), None) (c.inner ++ c.end ∷ []) [] (begin_inner so_far name c.begin [] c.begins) behind)
      refl (ap (λ (ls : List Line). event ls []) (sym (append-nil three) ∙ inner_lines so_far c.begin c.inner c.end [])) in
      subst (λ (ls : List Bytes). Runs few (event so_far []) ls [] (event (so_far ++ map other_line ls) [])) (sym c.are) whole

  -- ---- events

  fewer : (so_far lines : List Line) → AreFew few (so_far ++ lines) → AreFew few so_far
  fewer so_far lines all = λ i d lt e.
      let p = get_or few i d in
      let most = all i d lt e in
      let long = ap length (filter_map-append (text_shown p.0) so_far lines) ∙ length-append (texts_of p.0 so_far) (texts_of p.0 lines) in
      omega (arith, most, long)

  no_second : (so_far : List Line) (line : Line) (lines : List Line) → AreFew few (so_far ++ line ∷ lines) → list_any (is_second so_far line) few ≡ false
  no_second so_far line lines all =
      false_from_ne_true (list_any (is_second so_far line) few)
      (λ second. many_then so_far line few second
      (fewer (so_far ++ line ∷ []) lines (subst (AreFew few) (sym (append_assoc so_far (line ∷ []) lines)) all)))

  own_runs : {lines : List Line} → AreOwn lines → (so_far : List Line) → AreFew few (so_far ++ lines)
      → Runs few (event so_far []) (plain lines) [] (event (so_far ++ lines) [])
  own_runs own.nothing so_far all = (ap (λ (ls : List Line). event ls []) (sym (append-nil so_far)), refl)
  own_runs (own.property {line = line} {parts = parts} {lines = lines} is rest) so_far all =
      let one = so_far ++ (line, Some parts) ∷ [] in
      let moved = append_assoc so_far ((line, Some parts) ∷ []) lines in
      runs_as (event so_far []) (event (one ++ lines) []) (event (so_far ++ (line, Some parts) ∷ lines) []) (line ∷ plain lines) [] []
      (runs_more (event so_far []) (event (one ++ lines) []) line (event one [], None) (plain lines) []
      (record {
        kind = scan.property parts;
        is = is;
        leads = ap (λ b. cond b None (Some (event one [], None))) (no_second so_far (line, Some parts) lines all);
      })
      (own_runs rest one (subst (AreFew few) (sym moved) all)))
      refl (ap (λ (ls : List Line). event ls []) moved)
  own_runs (own.component {inner = inner} {lines = lines} name c rest) so_far all =
      let one = so_far ++ map other_line inner in
      let moved = append_assoc so_far (map other_line inner) lines in
      let whole = runs_append few inner (plain lines) (event so_far []) (event one []) (event (one ++ lines) []) [] [] (component_inner name inner c so_far)
      (own_runs rest one (subst (AreFew few) (sym moved) all)) in
      let same : inner ++ plain lines ≡ plain (map other_line inner ++ lines)
      = sym (plain_append (map other_line inner) lines ∙ ap (λ (ls : List Bytes). ls ++ plain lines) (plain_others inner)) in
      subst (λ (ls : List Bytes). Runs few (event so_far []) ls [] (event (so_far ++ (map other_line inner ++ lines)) [])) same
      (runs_as (event so_far []) (event (one ++ lines) []) (event (so_far ++ (map other_line inner ++ lines)) []) (inner ++ plain lines) [] [] whole refl
      (ap (λ (ls : List Line). event ls []) moved))

-- ---- calendars

module _ (shown : Shown) where
  event_runs : (c : Component) → IsEvent shown c → Runs (singles shown) (calendar true) (lines_of c) (item c ∷ []) (calendar true)
  event_runs c is =
      let few = singles shown in
      let all = other_line is.begin ∷ is.own in
      let d : Component = record { lines = all; end = c.end } in
      let same : d ≡ c = λ i. record { lines = sym is.are i; end = c.end } in
      let last = runs_one few (event all []) c.end (calendar true, Some (item d)) (end_event few all c.end is.ends) in
      let inside = own_runs few is.inside (other_line is.begin ∷ []) (subst (AreFew few) is.are is.few) in
      let behind = runs_append few (plain is.own) (c.end ∷ []) (event (other_line is.begin ∷ []) []) (event all []) (calendar true) [] (item d ∷ []) inside last in
      subst (λ (e : Component). Runs few (calendar true) (lines_of e) (item e ∷ []) (calendar true)) same
      (runs_more few (calendar true) (calendar true) is.begin (event (other_line is.begin ∷ []) [], None) (plain is.own ++ c.end ∷ []) (item d ∷ [])
      (enter_event few is.begin is.begins) behind)

  body_runs : {told : Bool} {ps : List Piece} → IsBody shown told ps → Runs (singles shown) (calendar told) (flat_map piece_lines ps) ps (calendar true)
  body_runs body.ends = (refl, refl)
  body_runs (body.property {told = told} {line = line} {parts = parts} {ps = ps} is rest) =
      runs_more (singles shown) (calendar told) (calendar true) line (calendar (told || is_version line), Some (other line)) (flat_map piece_lines ps) ps
      (property_goes (singles shown) told line parts is) (body_runs rest)
  body_runs (body.component {lines = lines} {ps = ps} name c differs rest) =
      subst (λ (ls : List Bytes). Runs (singles shown) (calendar true) ls (map other lines ++ ps) (calendar true)) (sym (lines_others lines ps))
      (runs_append (singles shown) lines (flat_map piece_lines ps) (calendar true) (calendar true) (calendar true) (map other lines) ps
      (component_runs (singles shown) name lines c differs) (body_runs rest))
  body_runs (body.event {c = c} {ps = ps} is rest) =
      runs_append (singles shown) (lines_of c) (flat_map piece_lines ps) (calendar true) (calendar true) (calendar true) (item c ∷ []) ps (event_runs c is) (body_runs rest)

  pub calendar_runs : (l : Layout) → IsCalendar shown l → Runs (singles shown) before (all_lines l) l.pieces behind
  calendar_runs l is =
      let few = singles shown in
      let last = runs_one few (calendar true) is.end (behind, None) (end_calendar few is.end is.ends) in
      let inside = runs_append few (flat_map piece_lines is.body) (is.end ∷ []) (calendar false) (calendar true) behind is.body [] (body_runs is.inside) last in
      let whole = runs_more few before behind is.begin (calendar false, Some (other is.begin)) (flat_map piece_lines is.body ++ is.end ∷ []) (is.body ++ [])
      (begin_calendar few is.begin is.begins) inside in
      let same : other is.begin ∷ is.body ++ [] ≡ l.pieces = ap (λ (ps : List Piece). other is.begin ∷ ps) (append-nil is.body) ∙ sym is.pieces_are in
      let lines : is.begin ∷ (flat_map piece_lines is.body ++ is.end ∷ []) ≡ all_lines l
      = λ i. flat_map piece_lines (sym is.pieces_are i) ++ sym is.end_is i in
      subst (λ (ls : List Bytes). Runs few before ls l.pieces behind) lines
      (runs_as few before behind behind (is.begin ∷ (flat_map piece_lines is.body ++ is.end ∷ [])) (other is.begin ∷ is.body ++ []) l.pieces whole same refl)
