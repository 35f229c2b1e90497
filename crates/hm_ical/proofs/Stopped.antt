-- Where lines stop to be those of a calendar.
use Rattle.std.proofs.Common.{◌≡◌, ℕ, zero, suc, ◌+◌, ◌<◌, List, [], ◌∷◌, ◌++◌, length, take, drop, slice_get, Some, inl, inr, refl, sym, ap, ◌∙◌, subst, arith}
use Rattle.std.proofs.lemmas.Bool.{cases_lt}
use Rattle.std.proofs.lemmas.List.{append_assoc, take_all}
use Rattle.std.proofs.lemmas.Option.{same_Some, none-some}
use Rattle.hm_schema.specs.Values.{OptionsValue}
use Rattle.hm_book_cards.specs.Cards.{Shown}
use Rattle.hm_lines_files.specs.Components.{Bytes, Piece, Layout, all_lines}
use Rattle.hm_lines_files.specs.Forms.{shown_of}
use Rattle.hm_lines_files.specs.Stops.{Opens, StopsAtLine, IsStop}
use Rattle.hm_lines_files.specs.declared.layout_fault.LayoutFault.{LayoutFault}
use Rattle.hm_lines_files.specs.declared.layout_fault.LayoutFault.TheVariants as stop
use Rattle.hm_ical.specs.Events.{singles}
use Rattle.hm_ical.specs.Calendars.{IsCalendar, ical}
use Rattle.hm_ical.specs.Scanning.{Place, before, behind, Runs, IsRefused, IsRunStop}
use Rattle.hm_ical.proofs.Runs.{runs_append, runs_once, stuck_no}
use Rattle.hm_ical.proofs.Soundness.{runs_calendar}
use Rattle.hm_ical.proofs.Completeness.{calendar_runs}
use Rattle.hm_ical.proofs.Closings.{close}
use Rattle.hm_facts.proofs.Lists.{split_at}

got : {X : Type 0} (n : ℕ) (xs : List X) → n < length xs → (x : X) × (slice_get xs n ≡ Some x)
got n [] lt = absurd (omega (arith, lt))
got zero (x ∷ xs) lt = (x, refl)
got (suc n) (x ∷ xs) lt = got n xs (omega (arith, lt))

one_more : {X : Type 0} (n : ℕ) (xs : List X) (x : X) → slice_get xs n ≡ Some x → take (suc n) xs ≡ take n xs ++ x ∷ []
one_more n [] x e = absurd (none-some x e)
one_more zero (y ∷ xs) x e = ap (λ z. z ∷ []) (same_Some y x e)
one_more (suc n) (y ∷ xs) x e = ap (λ l. y ∷ l) (one_more n xs x e)

module _ (o : OptionsValue) where
  abbrev few : Shown
  few = singles (shown_of ical o)

  -- lines that lead somewhere are the first of some calendar
  pub opens : (lines : List Bytes) (pieces : List Piece) (at : Place) → Runs few before lines pieces at → Opens ical o lines
  opens lines pieces at run =
      let rest = close few at in
      let read = runs_calendar (shown_of ical o) (lines ++ rest.lines) (pieces ++ rest.pieces)
      (runs_append few lines rest.lines before at behind pieces rest.pieces run rest.run) in
      record {
        more = rest.lines;
        layout = record { pieces = pieces ++ rest.pieces; end = read.end ∷ [] };
        has = read.has;
        are = read.are;
      }

  module _ (lines : List Bytes) (place : ℕ) (why : IsRefused few lines place) where
    -- with the line at the place they aren't
    stuck_here : (line : Bytes) → slice_get lines place ≡ Some line → (more : List Bytes) (l : Layout) → IsCalendar (shown_of ical o) l
        → take place lines ++ line ∷ more ≡ all_lines l → ⊥
    stuck_here line there more l has same =
        stuck_no few (take place lines) more line before why.at behind why.pieces l.pieces why.runs (why.stuck line there)
        (subst (λ (ls : List Bytes). Runs few before ls l.pieces behind) (sym same) (calendar_runs (shown_of ical o) l has))

    next_no : place < length lines → Opens ical o (take (place + 1) lines) → ⊥
    next_no lt opened =
        let line = got place lines lt in
        let one : place + 1 ≡ suc place = omega arith in
        stuck_here line.0 line.1 opened.more opened.layout opened.has
        (sym (append_assoc (take place lines) (line.0 ∷ []) opened.more)
        ∙ ap (λ (ls : List Bytes). ls ++ opened.more) (sym (ap (λ n. take n lines) one ∙ one_more place lines line.0 line.1)) ∙ opened.are)

    whole_no : (l : Layout) → IsCalendar (shown_of ical o) l → lines ≡ all_lines l → ⊥
    whole_no l has same = elim (cases_lt place (length lines)) [
      | inl lt ↦
          let line = got place lines lt in
          stuck_here line.0 line.1 (drop (suc place) lines) l has (sym (split_at place lines line.0 line.1) ∙ same)
      | inr le ↦
          let within = why.within in
          let run = subst (λ (ls : List Bytes). Runs few before ls why.pieces why.at) (take_all place lines le) why.runs in
          let whole = subst (λ (ls : List Bytes). Runs few before ls l.pieces behind) (sym same) (calendar_runs (shown_of ical o) l has) in
          why.unfinished (omega (arith, within, le)) (runs_once few lines before why.at behind why.pieces l.pieces run whole).1
    ]

    pub stops_at : StopsAtLine ical o lines place
    stops_at = record {
      within = why.within;
      opens = opens (take place lines) why.pieces why.at why.runs;
      next = next_no;
      none = whole_no;
    }

  pub stopped : (lines : List Bytes) (s : LayoutFault) → IsRunStop few lines s → IsStop ical o lines s
  stopped lines (stop.At place) why = stops_at lines place why
  stopped lines stop.Memory why = tt
