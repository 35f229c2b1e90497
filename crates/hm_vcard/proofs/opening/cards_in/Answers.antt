use Rattle.std.proofs.Common.{List, [], refl, sym, subst}
use Rattle.std.specs.Borrow.{Bor}
use Rattle.hm_lines_files.specs.Lent.{texts, pieces_of}
use Rattle.hm_lines_files.specs.Components.{Bytes}
use Rattle.hm_lines_files.specs.Stops.{AreOf, IsStop}
use Rattle.hm_vcard.specs.Cards.{vcards}
use Rattle.hm_vcard.proofs.FileStops.{stop_told, layout_told}
use Rattle.hm_vcard.proofs.opening.cards_in.Goals as goal
use Rattle.hm_lines_files.proofs.Stopped.{passed}

pub returns-in_err-all_of-clause-stop : goal.returns-in_err-all_of-clause-stop
returns-in_err-all_of-clause-stop c o =
    passed c.from_residual.result c.in_err-all_of.field-0.0 (IsStop vcards o (texts c.args.lines.now)) c.from_residual.ensures.1
    (stop_told o (texts c.args.lines.now) c.in_err-all_of.field-0.0 c.in_err-all_of.ensures.stop)

pub returns-clause-layout : goal.returns-clause-layout
returns-clause-layout c o =
    let lines = texts c.args.lines.now in
    let pieces = pieces_of c.in_ok-all_of.field-0.items in
    subst (λ (end : List (Bor Bytes)). AreOf vcards o lines (record { pieces = pieces; end = texts end })) (sym c.new.ensures.items)
    (layout_told o lines (record { pieces = pieces; end = [] }) c.in_ok-all_of.ensures.cards refl)
