-- The pieces of a calendar that are renewed are those of a calendar.
use Rattle.std.proofs.Common.{◌≡◌, ◌⊎◌, inl, inr, Bool, true, List, [], ◌∷◌, ◌++◌, map, refl, sym, ap, ◌∙◌, subst}
use Rattle.std.specs.Prelude.{All}
use Rattle.std.proofs.lemmas.List.Elements.{All-nil, All-cons, All-head, All-tail}
use Rattle.hm_book_cards.specs.Cards.{Shown}
use Rattle.hm_lines_files.specs.Components.{Bytes, Component, Piece, other, item, Layout, components_of}
use Rattle.hm_lines_files.specs.Renewed.{AreRenewed, behind, stays, goes, exchanged}
use Rattle.hm_ical.specs.Events.{IsEvent}
use Rattle.hm_ical.specs.Calendars.{IsBody, ends, property, component, event, IsCalendar}

-- ---- the events of a calendar

components_others : (ls : List Bytes) (ps : List Piece) → components_of (map other ls ++ ps) ≡ components_of ps
components_others [] ps = refl
components_others (l ∷ ls) ps = components_others ls ps

pub body_events : {shown : Shown} {told : Bool} {ps : List Piece} → IsBody shown told ps → All (IsEvent shown) (components_of ps)
body_events {shown = shown} ends = All-nil (IsEvent shown)
body_events (property is rest) = body_events rest
body_events {shown = shown} (component {lines = lines} {ps = ps} name c differs rest) =
    subst (All (IsEvent shown)) (sym (components_others lines ps)) (body_events rest)
body_events {shown = shown} (event {c = c} {ps = ps} is rest) = All-cons (IsEvent shown) c (components_of ps) is (body_events rest)

-- ---- what becomes of pieces

module _ (Fits : Component → Type 0) where
  record AreAllNew (qs : List Piece) : Type 0 where
    cs : List Component
    fit : All Fits cs
    are : qs ≡ map item cs

  renewed_none : {qs : List Piece} → AreRenewed Fits [] qs → AreAllNew qs
  renewed_none (behind cs all) = record { cs = cs; fit = all; are = refl }

  pub record IsStaying (line : Bytes) (ps qs : List Piece) : Type 0 where
    pub rest : List Piece
    pub then : AreRenewed Fits ps rest
    pub are : qs ≡ other line ∷ rest

  pub renewed_other : {line : Bytes} {ps qs : List Piece} → AreRenewed Fits (other line ∷ ps) qs → IsStaying line ps qs
  renewed_other (stays {qs = qs} rest) = record { rest = qs; then = rest; are = refl }

  record AreStaying (lines : List Bytes) (ps qs : List Piece) : Type 0 where
    rest : List Piece
    then : AreRenewed Fits ps rest
    are : qs ≡ map other lines ++ rest

  renewed_others : (lines : List Bytes) (ps qs : List Piece) → AreRenewed Fits (map other lines ++ ps) qs → AreStaying lines ps qs
  renewed_others [] ps qs r = record { rest = qs; then = r; are = refl }
  renewed_others (line ∷ lines) ps qs r =
      let one = renewed_other r in
      let later = renewed_others lines ps one.rest one.then in
      record { rest = later.rest; then = later.then; are = one.are ∙ ap (λ (l : List Piece). other line ∷ l) later.are }

  record IsExchanged (ps qs : List Piece) : Type 0 where
    d : Component
    fits : Fits d
    rest : List Piece
    then : AreRenewed Fits ps rest
    are : qs ≡ item d ∷ rest

  renewed_item : {c : Component} {ps qs : List Piece} → AreRenewed Fits (item c ∷ ps) qs → AreRenewed Fits ps qs ⊎ IsExchanged ps qs
  renewed_item (goes c rest) = inl rest
  renewed_item (exchanged {d = d} {qs = qs} fits rest) = inr (record { d = d; fits = fits; rest = qs; then = rest; are = refl })

-- ---- bodies

all_events : (shown : Shown) (cs : List Component) → All (IsEvent shown) cs → IsBody shown true (map item cs)
all_events shown [] all = ends
all_events shown (c ∷ cs) all = event (All-head (IsEvent shown) c cs all) (all_events shown cs (All-tail (IsEvent shown) c cs all))

body_renewed : {shown : Shown} {told : Bool} {ps : List Piece} → IsBody shown told ps → (qs : List Piece) → AreRenewed (IsEvent shown) ps qs → IsBody shown told qs
body_renewed {shown = shown} ends qs r =
    let new = renewed_none (IsEvent shown) r in
    subst (λ (l : List Piece). IsBody shown true l) (sym new.are) (all_events shown new.cs new.fit)
body_renewed {shown = shown} (property {told = told} is rest) qs r =
    let one = renewed_other (IsEvent shown) r in
    subst (λ (l : List Piece). IsBody shown told l) (sym one.are) (property is (body_renewed rest one.rest one.then))
body_renewed {shown = shown} (component {lines = lines} {ps = ps} name c differs rest) qs r =
    let some = renewed_others (IsEvent shown) lines ps qs r in
    subst (λ (l : List Piece). IsBody shown true l) (sym some.are) (component name c differs (body_renewed rest some.rest some.then))
body_renewed {shown = shown} (event is rest) qs r = elim (renewed_item (IsEvent shown) r) [
  | inl gone ↦ body_renewed rest qs gone
  | inr new ↦ subst (λ (l : List Piece). IsBody shown true l) (sym new.are) (event new.fits (body_renewed rest new.rest new.then))
]

pub calendar_renewed : (shown : Shown) (l : Layout) (pieces : List Piece) → IsCalendar shown l → AreRenewed (IsEvent shown) l.pieces pieces
    → IsCalendar shown (record { pieces = pieces; end = l.end })
calendar_renewed shown l pieces is r =
    let one = renewed_other (IsEvent shown) (subst (λ (ps : List Piece). AreRenewed (IsEvent shown) ps pieces) is.pieces_are r) in
    record {
      begin = is.begin;
      body = one.rest;
      end = is.end;
      begins = is.begins;
      inside = body_renewed is.inside one.rest one.then;
      ends = is.ends;
      pieces_are = one.are;
      end_is = is.end_is;
    }
