use Rattle.std.proofs.Common.{◌≡◌, length, sym, ap, ◌∙◌, rules}
use Rattle.std.specs.Prelude.{vec_len}
use Rattle.std.proofs.lemmas.Bool.{eqb-false}
use Rattle.hm_lines_cards.specs.Lines.{Line}
use Rattle.hm_lines_cards.specs.Lent.{lent}
use Rattle.hm_ical.specs.Scanning.{Kind, next, event, with_line}
use Rattle.hm_ical.specs.Lent.{kind_of, names_of}
use Rattle.hm_ical.proofs.Places.{in_some, some_names, then_ok}
use Rattle.hm_ical.proofs.scanning.in_event.Goals as goal

pub returns-in-Property-2 : goal.returns-in-Property-2
returns-in-Property-2 c =
    let inside = c.args.event.now in
    let lines = lent inside.lines.items in
    let names = names_of inside.names.items in
    let line = c.args.line.now in
    let counted : vec_len inside.names ≡ length inside.names.items = search rules in
    let some = some_names inside.names.items (λ none. eqb-false (vec_len inside.names) 0 (sym c.is_empty.ensures ∙ c.if-is_empty.false) (counted ∙ none)) in
    then_ok c.with_line-in-Property-2.result c.with_line-in-Property-2.ensures
    (λ made holds.
    holds names line ∙ ap (λ (l : Line). with_line lines l names) c.bare-in-Property-2.ensures
    ∙ in_some c.args.singles.now lines names line c.in-Property-2.field-0 some
    ∙ ap (λ (k : Kind). next c.args.singles.now (event lines names) line k) (ap kind_of (sym c.in-Property-2.is)))
