-- Places between lines, as the code has them.
use Rattle.std.proofs.Common.{◌≡◌, List, [], ◌∷◌, length, refl, sym, ap, ◌∙◌, subst, arith}
use Rattle.std.specs.Prelude.{All, Result, Ok, Err, IfOk}
use Rattle.std.specs.Borrow.{Bor}
use Rattle.std.proofs.lemmas.List.{length-map, length-reverse, get_or-map}
use Rattle.hm_lines.specs.declared.content.LineParts.{LineParts}
use Rattle.hm_book_cards.specs.Cards.{Shown}
use Rattle.hm_lines_cards.specs.declared.line.Line.{Line as LentLine}
use Rattle.hm_lines_cards.specs.Lines.{Line, IsLine}
use Rattle.hm_lines_cards.specs.Lent.{AreLines, lent, line_of}
use Rattle.hm_lines_files.specs.Components.{Bytes}
use Rattle.hm_lines_files.specs.Lent.{texts}
use Rattle.hm_ical.specs.Events.{other_line}
use Rattle.hm_ical.specs.Scanning.{property, event, next, with_line, Step}
use Rattle.hm_ical.specs.Lent.{names_of, place_of}
use Rattle.hm_ical.specs.Scanning as plain
use Rattle.hm_ical.specs.declared.place.Place.{Place}
use Rattle.hm_ical.specs.declared.place.Place.TheVariants.{Before, Behind, Calendar, Event, Other}

-- the lines of an event have the parts that they say
pub are_lines : (ls : List LentLine) → All IsLine (lent ls) → AreLines ls
are_lines ls all = λ i d lt.
    let long = length-map ls line_of in
    subst IsLine (get_or-map line_of ls i d (line_of d) lt) (all i (line_of d) (omega (arith, lt, long)))

-- what holds of an answer gives what is wanted of it
pub then_ok : {X E : Type 0} {P Q : X → Type 0} (r : Result X E) → IfOk r P → ((x : X) → P x → Q x) → IfOk r Q
then_ok (Ok x) p f = f x p
then_ok (Err e) p f = tt

-- in a component of an event no line is a property of its own
pub in_some : (singles : Shown) (lines : List Line) (names : List Bytes) (line : Bytes) (parts : LineParts) → (names ≡ [] → ⊥)
    → with_line lines (other_line line) names ≡ next singles (event lines names) line (property parts)
in_some singles lines [] line parts some = absurd (some refl)
in_some singles lines (name ∷ names) line parts some = refl

pub some_names : (names : List (Bor Bytes)) → (length names ≡ 0 → ⊥) → names_of names ≡ [] → ⊥
some_names names some none =
    some (sym (length-map names (λ (l : Bor Bytes). l.now)) ∙ sym (length-reverse (texts names)) ∙ ap length none)

pub at_end : (at : Place) → place_of at ≡ plain.behind → at ≡ Behind
at_end Before e = let bad : ⊥ = cc in absurd bad
at_end Behind e = refl
at_end (Calendar told) e = let bad : ⊥ = cc in absurd bad
at_end (Event inside) e = let bad : ⊥ = cc in absurd bad
at_end (Other nested) e = let bad : ⊥ = cc in absurd bad
