use Rattle.std.proofs.Common.{List, sym, ap, ◌∙◌, subst}
use Rattle.std.specs.Borrow.{Bor}
use Rattle.hm_book_cards.specs.Cards.{Shown}
use Rattle.hm_lines_files.specs.Components.{Bytes}
use Rattle.hm_lines_files.specs.Stops.{AreOf, IsStop}
use Rattle.hm_lines_files.specs.Lent.{texts, pieces_of}
use Rattle.hm_ical.specs.Events.{singles}
use Rattle.hm_ical.specs.Calendars.{ical}
use Rattle.hm_ical.specs.Scanning.{Runs, before, behind, IsRunStop}
use Rattle.hm_ical.proofs.Stopped.{stopped}
use Rattle.hm_ical.proofs.LentRuns.{are_of, lines_there}
use Rattle.hm_ical.proofs.layout.layout_of.Goals as goal
use Rattle.hm_lines_files.proofs.Stopped.{passed}

pub returns-in_err-pieces-clause-stop : goal.returns-in_err-pieces-clause-stop
returns-in_err-pieces-clause-stop c = λ o e.
    let lines = texts c.args.lines.now in
    let few = c.deref.ensures.value ∙ c.in_ok-singles.ensures in
    passed c.from_residual-in_err-pieces.result c.in_err-pieces.field-0.0 (IsStop ical o lines) c.from_residual-in_err-pieces.ensures.1
    (stopped o lines c.in_err-pieces.field-0.0
    (subst (λ (s : Shown). IsRunStop s lines c.in_err-pieces.field-0.0) (few ∙ ap singles e) c.in_err-pieces.ensures.stop))

pub returns-clause-layout : goal.returns-clause-layout
returns-clause-layout c = λ o e.
    let lines = c.args.lines.now in
    let pieces = c.in_ok-pieces.pieces.items in
    let few = c.deref.ensures.value ∙ c.in_ok-singles.ensures in
    let run = subst (λ (s : Shown). Runs s before (texts lines) (pieces_of pieces) behind) few c.in_ok-pieces.ensures.pieces in
    subst (λ (end : List (Bor Bytes)). AreOf ical o (texts lines) (record { pieces = pieces_of pieces; end = texts end })) (sym c.in_ok-last.ensures)
    (are_of c.args.shown.now lines pieces run o e)

pub returns-clause-lines : goal.returns-clause-lines
returns-clause-lines c =
    let lines = c.args.lines.now in
    let pieces = c.in_ok-pieces.pieces.items in
    let few = c.deref.ensures.value ∙ c.in_ok-singles.ensures in
    lines_there c.args.shown.now lines pieces (subst (λ (s : Shown). Runs s before (texts lines) (pieces_of pieces) behind) few c.in_ok-pieces.ensures.pieces)
