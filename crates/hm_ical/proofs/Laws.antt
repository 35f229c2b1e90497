-- Calendars are a form of files of components.
use Rattle.std.proofs.Common.{◌≡◌, ◌≢◌, ◌≤◌, Bool, false, codes, cond, List, [], ◌∷◌, ◌++◌, length, get_or, drop, Option, Some, None, refl, sym, ap, ◌∙◌, subst, arith}
use Rattle.std.specs.Prelude.{All, IsUtf8}
use Rattle.std.specs.Str.{is_utf8, chars}
use lib.Utf8.{encode}
use Rattle.std.specs.List.{flat_map, cons_option}
use Rattle.std.proofs.lemmas.List.{drop_at}
use Rattle.std.proofs.lemmas.List.Elements.{All-nil, All-cons, All-head, All-tail, All-filter}
use Rattle.std.proofs.lemmas.Option.{get_or_from_slice_get, slice_get_within}
use Rattle.hm_tree.specs.Names.{Name, name_cmp}
use Rattle.hm_tree.specs.Nodes.{Tree}
use Rattle.hm_schema.specs.Values.{OptionsValue}
use Rattle.hm_lines.specs.Content.{IsWord}
use Rattle.hm_lines.specs.Folding.{IsPlain}
use Rattle.hm_lines.proofs.Laws.{new_line}
use Rattle.hm_book_cards.specs.Cards.{Shown, IsCard}
use Rattle.hm_lines_cards.specs.Lines.{Line, IsCapital, AreProperties, IsLine, AreFew, is_of, text_in, text_shown, texts_of}
use Rattle.hm_lines_cards.specs.Rewriting.{new_line as new_property, rewritten, rewritten_from, lines_for}
use Rattle.hm_lines_cards.proofs.Laws.{rewritten_few, key_stays}
use Rattle.hm_format.specs.Options.{values_of, is_among}
use Rattle.hm_lines_files.specs.Components.{Bytes, Component, Piece, other, Layout, all_lines, piece_lines, components_of}
use Rattle.hm_lines_files.specs.Rewriting.{blank, showing}
use Rattle.hm_lines_files.specs.Forms.{shown_by}
use Rattle.hm_lines_files.specs.FormLaws.{IsForm}
use Rattle.hm_lines_files.proofs.KnownNames.{word, capital, all_apart, sound_line}
use Rattle.hm_ical.specs.Lines.{is_same, IsProperty}
use Rattle.hm_ical.specs.Events.{key_name, other_line, singles, IsEvent}
use Rattle.hm_ical.specs.Calendars.{properties, stamp_line, event_template, ical, property, ends, IsCalendar}
use Rattle.hm_ical.specs.Scanning.{Runs, before, behind}
use Rattle.hm_ical.proofs.Runs.{runs_once}
use Rattle.hm_ical.proofs.Completeness.{calendar_runs}
use Rattle.hm_ical.proofs.EventLines.{event_are_lines}
use Rattle.hm_ical.proofs.LineTexts.{lines_full, lines_no_blank}
use Rattle.hm_ical.proofs.OwnAgain.{IsOwn, own_from, IsFree, new_of, new_own, other_stays, own_rewritten}
use Rattle.hm_ical.proofs.Renewals.{body_events, calendar_renewed}
use Rattle.hm_lines_files.proofs.ShownProperties.{shown_properties}

-- ---- the properties

-- what holds of each of five
five : (P : Name × Bool → Type 0) → P (codes "DESCRIPTION", false) → P (codes "DTEND", false) → P (codes "DTSTART", false) → P (codes "LOCATION", false)
    → P (codes "SUMMARY", false) → All P properties
five P a b c d e =
    let one : Shown = (codes "SUMMARY", false) ∷ [] in
    let two : Shown = (codes "LOCATION", false) ∷ one in
    let three : Shown = (codes "DTSTART", false) ∷ two in
    let four : Shown = (codes "DTEND", false) ∷ three in
    All-cons P (codes "DESCRIPTION", false) four a (All-cons P (codes "DTEND", false) three b (All-cons P (codes "DTSTART", false) two c
    (All-cons P (codes "LOCATION", false) one d (All-cons P (codes "SUMMARY", false) [] e (All-nil P)))))

properties_are : AreProperties properties
unfolding name_cmp is_utf8 chars encode
properties_are = record {
  names = tt;
  words = five (λ (p : Name × Bool). IsWord p.0) (word _ _ refl) (word _ _ refl) (word _ _ refl) (word _ _ refl) (word _ _ refl);
  capitals = five (λ (p : Name × Bool). All IsCapital p.0) (capital (codes "DESCRIPTION") refl) (capital (codes "DTEND") refl) (capital (codes "DTSTART") refl)
      (capital (codes "LOCATION") refl) (capital (codes "SUMMARY") refl);
}

pub apart_are : All (λ (p : Name × Bool). p.0 ≢ key_name) properties
apart_are = all_apart key_name properties refl

free_are : All (λ (p : Name × Bool). IsFree p.0) properties
free_are =
    five (λ (p : Name × Bool). IsFree p.0) (record { begin = refl; end = refl; version = refl }) (record { begin = refl; end = refl; version = refl })
    (record { begin = refl; end = refl; version = refl }) (record { begin = refl; end = refl; version = refl }) (record { begin = refl; end = refl; version = refl })

-- ---- a new event

-- the lines of a new event show nothing of a property
abbrev IsApart : Name × Bool → Type 0
IsApart p = (is_same key_name p.0 ≡ false) × (is_of p.0 stamp_line ≡ false)

new_apart : All IsApart properties
new_apart = five IsApart (refl, refl) (refl, refl) (refl, refl) (refl, refl) (refl, refl)

key_word : IsWord key_name
key_word = word _ _ refl

key_free : IsFree key_name
key_free = record { begin = refl; end = refl; version = refl }

stamp_own : IsOwn stamp_line
stamp_own = record {
  parts = record { name_from = 0; name_to = 7; value_from = 8 };
  are = refl;
  is = record { content = new_line (codes "DTSTAMP") (codes "19700101T000000Z") (word _ _ refl); free = refl };
}

pub stamp_is_line : IsLine stamp_line
unfolding stamp_own
stamp_is_line = stamp_own.is.content

at_most_one : (o : Option Name) → length (cons_option o []) ≤ 1
at_most_one None = omega arith
at_most_one (Some k) = omega arith

abbrev new_lines : Name → List Line
new_lines k = new_property key_name k ∷ stamp_line ∷ []

new_few : (k : Name) (ps : Shown) → All IsApart ps → AreFew ps (other_line (codes "BEGIN:VEVENT") ∷ new_lines k)
new_few k ps all i d lt e =
    let p = get_or ps i d in
    let apart = all i d lt in
    let shown : texts_of p.0 (other_line (codes "BEGIN:VEVENT") ∷ new_lines k) ≡ []
    = (λ j.
    cons_option (cond ((new_of key_name p.0 k ∙ apart.0) j) (text_in (new_property key_name k).0 (new_property key_name k).1) None)
    (cons_option (cond (apart.1 j) (text_in stamp_line.0 stamp_line.1) None) [])) in
    let none = ap length shown in
    omega (arith, none)

new_event : (s : Shown) → All IsApart s → (k : Name) → IsEvent s (blank event_template k)
new_event s all k = record {
  begin = codes "BEGIN:VEVENT";
  own = new_lines k;
  begins = refl;
  inside = own_from (new_lines k) (All-cons IsOwn (new_property key_name k) (stamp_line ∷ []) (new_own key_name key_word key_free k) (All-cons IsOwn stamp_line [] stamp_own (All-nil IsOwn)));
  are = refl;
  ends = refl;
  few = All-cons (λ (p : Name × Bool). p.1 ≡ false → length (texts_of p.0 (other_line (codes "BEGIN:VEVENT") ∷ new_lines k)) ≤ 1) (key_name, false) s
      (λ e. at_most_one (text_shown key_name (new_property key_name k))) (new_few k s all);
}

-- ---- an event that is to show another card

module _ (s : Shown) (are : AreProperties s) (free : All (λ (p : Name × Bool). IsFree p.0) s) (apart : All (λ (p : Name × Bool). p.0 ≢ key_name) s)
    (c : Component) (is : IsEvent s c) (card : Tree) (is_card : IsCard s card) where
  shown_few : AreFew s c.lines
  shown_few = All-tail (λ (p : Name × Bool). p.1 ≡ false → length (texts_of p.0 c.lines) ≤ 1) (key_name, false) s is.few

  own_are : List Line
  own_are = rewritten_from s card c.lines 1 is.own ++ flat_map (lines_for card c.lines) s

  rewritten_is : rewritten s card c.lines ≡ other_line is.begin ∷ own_are
  unfolding own_are
  rewritten_is =
      ap (λ (ls : List Line). rewritten_from s card c.lines 0 ls ++ flat_map (lines_for card c.lines) s) is.are
      ∙ ap (λ (ls : List Line). (ls ++ rewritten_from s card c.lines 1 is.own) ++ flat_map (lines_for card c.lines) s) (other_stays s card c.lines is.begin 0)

  key_kept : texts_of key_name (rewritten s card c.lines) ≡ texts_of key_name c.lines
  key_kept =
      key_stays s are key_name (capital key_name refl)
      (λ i p at same. apart i p (slice_get_within s i p at) (ap (λ (q : Name × Bool). q.0) (get_or_from_slice_get s i p p at) ∙ same))
      card c.lines (event_are_lines s c is)

  pub event_again : IsEvent s (showing s card c)
  unfolding own_are
  event_again = record {
    begin = is.begin;
    own = own_are;
    begins = is.begins;
    inside = own_rewritten s are.words free card c.lines is.own is.inside;
    are = rewritten_is;
    ends = is.ends;
    few = All-cons (λ (p : Name × Bool). p.1 ≡ false → length (texts_of p.0 (rewritten s card c.lines)) ≤ 1) (key_name, false) s
        (λ e.
        let most = All-head (λ (p : Name × Bool). p.1 ≡ false → length (texts_of p.0 c.lines) ≤ 1) (key_name, false) s is.few e in
        let same = ap length key_kept in
        omega (arith, most, same))
        (rewritten_few s are card is_card c.lines (event_are_lines s c is) shown_few);
  }

-- ---- lines are those of one calendar

layout_once : (s : Shown) (l m : Layout) → IsCalendar s l → IsCalendar s m → all_lines l ≡ all_lines m → l ≡ m
layout_once s l m one two same =
    let few = singles s in
    let pieces = (runs_once few (all_lines m) before behind behind l.pieces m.pieces
    (subst (λ (ls : List Bytes). Runs few before ls l.pieces behind) same (calendar_runs s l one)) (calendar_runs s m two)).0 in
    let front = flat_map piece_lines m.pieces in
    let end : l.end ≡ m.end
    = sym (drop_at front l.end (length front) refl)
    ∙ ap (drop (length front)) (ap (λ (ps : List Piece). flat_map piece_lines ps ++ l.end) (sym pieces) ∙ same)
    ∙ drop_at front m.end (length front) refl in
    λ i. record { pieces = pieces i; end = end i }

-- ---- a calendar of nothing but its version

version_line : Bytes
version_line = codes "VERSION:2.0"

least_calendar : Layout
least_calendar = record { pieces = other (codes "BEGIN:VCALENDAR") ∷ other version_line ∷ []; end = codes "END:VCALENDAR" ∷ [] }

version_is : IsProperty version_line (record { name_from = 0; name_to = 7; value_from = 8 })
unfolding version_line
version_is = record { content = new_line (codes "VERSION") (codes "2.0") (word _ _ refl); free = refl }

is_least : (s : Shown) → IsCalendar s least_calendar
unfolding version_line least_calendar
is_least s = record {
  begin = codes "BEGIN:VCALENDAR";
  body = other version_line ∷ [];
  end = codes "END:VCALENDAR";
  begins = refl;
  inside = property version_is ends;
  ends = refl;
  pieces_are = refl;
  end_is = refl;
}

-- ---- the form

abbrev shown : OptionsValue → Shown
shown o = shown_by properties o

kept : (P : Name × Bool → Type 0) (o : OptionsValue) → All P properties → All P (shown o)
kept P o all = All-filter (λ p. is_among (values_of o.pairs (codes "show")) p.0) P properties all

pub ical_form : IsForm ical
unfolding stamp_own
ical_form = record {
  properties = properties_are;
  word = key_word;
  capitals = capital key_name refl;
  apart = apart_are;
  front = refl;
  more = refl;
  end = sound_line (codes "END:VEVENT") refl refl refl;
  front_lines = All-cons (λ (l : Line). IsLine l × (IsPlain l.0 × IsUtf8 l.0)) (other_line (codes "BEGIN:VEVENT")) []
      (tt, sound_line (codes "BEGIN:VEVENT") refl refl refl) (All-nil (λ (l : Line). IsLine l × (IsPlain l.0 × IsUtf8 l.0)));
  more_lines = All-cons (λ (l : Line). IsLine l × (IsPlain l.0 × IsUtf8 l.0)) stamp_line []
      (stamp_own.is.content, sound_line (codes "DTSTAMP:19700101T000000Z") refl refl refl) (All-nil (λ (l : Line). IsLine l × (IsPlain l.0 × IsUtf8 l.0)));
  new = λ o k filled. new_event (shown o) (kept IsApart o new_apart) k;
  lines = λ o c is. event_are_lines (shown o) c is;
  few = λ o c is. All-tail (λ (p : Name × Bool). p.1 ≡ false → length (texts_of p.0 c.lines) ≤ 1) (key_name, false) (shown o) is.few;
  showing = λ o c card is is_card.
      event_again (shown o) (shown_properties properties o properties_are) (kept (λ (p : Name × Bool). IsFree p.0) o free_are)
      (kept (λ (p : Name × Bool). p.0 ≢ key_name) o apart_are) c is card is_card;
  some = λ o. (least_calendar, is_least (shown o));
  once = λ o l m one two same. layout_once (shown o) l m one two same;
  full = λ o l is. lines_full (shown o) l is;
  no_blank = λ o l is. lines_no_blank (shown o) l is;
  fit = λ o l is.
      subst (λ (ps : List Piece). All (IsEvent (shown o)) (components_of ps)) (sym is.pieces_are) (body_events is.inside);
  renewed = λ o l pieces is r. calendar_renewed (shown o) l pieces is r;
}
