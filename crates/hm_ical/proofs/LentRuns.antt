-- Lines one after another, as the code goes over them.
use Rattle.std.proofs.Common.{◌≡◌, ◌≢◌, ℕ, false, ◌+◌, ◌-◌, ◌<◌, ◌≤◌, List, [], ◌∷◌, ◌++◌, length, get_or, take, drop, Option, Some, None, sym, ap, ◌∙◌, subst, arith}
use Rattle.std.specs.Prelude.{option_to_list}
use Rattle.std.specs.Option.{option_map}
use Rattle.std.specs.Borrow.{Bor}
use Rattle.std.specs.List.{flat_map}
use Rattle.std.proofs.lemmas.List.{length-append, length-map, map-append, take_more, take_all, drop_at, drop-map, get_or-map}
use Rattle.std.proofs.lemmas.Option.{slice_get_within}
use Rattle.hm_schema.specs.Values.{OptionsValue}
use Rattle.hm_book_cards.specs.Cards.{Shown}
use Rattle.hm_lines_files.specs.Components.{Bytes, Piece, piece_lines}
use Rattle.hm_lines_files.specs.Forms.{shown_of}
use Rattle.hm_lines_files.specs.Stops.{AreOf}
use Rattle.hm_lines_files.specs.declared.component.Piece.{Piece as LentPiece}
use Rattle.hm_lines_files.specs.Lent.{texts, piece_of, pieces_of, HaveLines}
use Rattle.hm_ical.specs.Events.{singles}
use Rattle.hm_ical.specs.Calendars.{IsCalendar, ical}
use Rattle.hm_ical.specs.Scanning.{Place, before, behind, Runs, IsStep, IsRefused}
use Rattle.hm_ical.proofs.Runs.{runs_append, runs_one}
use Rattle.hm_ical.proofs.Soundness.{runs_calendar}
use Rattle.hm_ical.proofs.EventLines.{have_lines}

pub piece_more : (old new : List LentPiece) (o : Option LentPiece) → new ≡ old ++ option_to_list o → pieces_of new ≡ pieces_of old ++ option_to_list (option_map piece_of o)
piece_more old new None e = ap pieces_of e ∙ map-append piece_of old []
piece_more old new (Some p) e = ap pieces_of e ∙ map-append piece_of old (p ∷ [])

-- one line more
pub run_push : (few : Shown) (lines : List (Bor Bytes)) (place : ℕ) (d : Bor Bytes) → place < length lines → (old new : List Piece) (at to : Place)
    → Runs few before (take place (texts lines)) old at → IsStep few at (get_or lines place d).now old new (Some to)
    → Runs few before (take (place + 1) (texts lines)) new to
run_push few lines place d lt old new at to run (piece, goes, are) =
    let line = (get_or lines place d).now in
    let long = length-map lines (λ (l : Bor Bytes). l.now) in
    let read : get_or (texts lines) place line ≡ line = get_or-map (λ (l : Bor Bytes). l.now) lines place d line lt in
    let whole : take place (texts lines) ++ line ∷ [] ≡ take (place + 1) (texts lines)
    = ap (λ (l : Bytes). take place (texts lines) ++ l ∷ []) (sym read) ∙ sym (take_more (texts lines) place line (omega (arith, lt, long))) in
    let both = runs_append few (take place (texts lines)) (line ∷ []) before at to old (option_to_list piece) run (runs_one few at line (to, piece) goes) in
    subst (λ (ls : List Bytes). Runs few before ls new to) whole (subst (λ (ps : List Piece). Runs few before (take place (texts lines) ++ line ∷ []) ps to) (sym are) both)

-- all lines, which don't lead to the end
pub not_all : (few : Shown) (lines : List (Bor Bytes)) (place : ℕ) (pieces : List Piece) (at : Place) → length lines ≤ place
    → Runs few before (take place (texts lines)) pieces at → at ≢ behind → IsRefused few (texts lines) (length lines)
not_all few lines place pieces at le run differs =
    let long = length-map lines (λ (l : Bor Bytes). l.now) in
    let same = take_all place (texts lines) (omega (arith, le, long)) ∙ sym (take_all (length lines) (texts lines) (omega (arith, long))) in
    record {
      within = omega (arith, long);
      pieces = pieces;
      at = at;
      runs = subst (λ (ls : List Bytes). Runs few before ls pieces at) same run;
      stuck = λ line there. absurd (let within = slice_get_within (texts lines) (length lines) line there in omega (arith, within, long));
      unfinished = λ e. differs;
    }

-- ---- lines that lead to the end

module _ (shown : Shown) (lines : List (Bor Bytes)) (pieces : List LentPiece) (run : Runs (singles shown) before (texts lines) (pieces_of pieces) behind) where
  pub last_line : (end : Bytes) (front : List Bytes) → texts lines ≡ front ++ end ∷ [] → end ∷ [] ≡ texts (drop (length lines - 1) lines)
  last_line end front same =
      let long = length-map lines (λ (l : Bor Bytes). l.now) in
      let counted = ap length same ∙ length-append front (end ∷ []) in
      sym (drop_at front (end ∷ []) (length lines - 1) (omega (arith, long, counted)))
      ∙ ap (drop (length lines - 1)) (sym same) ∙ drop-map (λ (l : Bor Bytes). l.now) (length lines - 1) lines

  pub lines_there : HaveLines pieces
  lines_there =
      let read = runs_calendar shown (texts lines) (pieces_of pieces) run in
      have_lines shown false read.has.begin pieces read.has.body read.has.inside read.has.pieces_are

  pub are_of : (o : OptionsValue) → shown ≡ shown_of ical o → AreOf ical o (texts lines) (record { pieces = pieces_of pieces; end = texts (drop (length lines - 1) lines) })
  are_of o same =
      let read = runs_calendar shown (texts lines) (pieces_of pieces) run in
      let end = last_line read.end (flat_map piece_lines (pieces_of pieces)) read.are in (
        subst (λ (s : Shown). IsCalendar s (record { pieces = pieces_of pieces; end = texts (drop (length lines - 1) lines) })) same
            (subst (λ (ls : List Bytes). IsCalendar shown (record { pieces = pieces_of pieces; end = ls })) end read.has),
        read.are ∙ ap (λ (ls : List Bytes). flat_map piece_lines (pieces_of pieces) ++ ls) end,
      )
