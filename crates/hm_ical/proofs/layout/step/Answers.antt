use Rattle.std.proofs.Common.{Some, sym, ap, ◌∙◌}
use Rattle.hm_lines_files.specs.Lent.{piece_of}
use Rattle.hm_ical.specs.Scanning.{Kind, next}
use Rattle.hm_ical.specs.Lent.{kind_of, place_of, step_of}
use Rattle.hm_ical.specs.declared.place.Step.{Step}
use Rattle.hm_ical.proofs.LineKinds.{kind_once}
use Rattle.hm_ical.proofs.LentRuns.{piece_more}
use Rattle.hm_ical.proofs.layout.step.Goals as goal

pub returns-in-Stuck : goal.returns-in-Stuck
returns-in-Stuck c = λ kind is.
    ap (λ (k : Kind). next c.args.singles.now (place_of c.args.at.now) c.args.line.now k) (kind_once c.args.line.now kind (kind_of c.in-Some.kind) is c.in-Some.ensures)
    ∙ sym c.in_ok-next.ensures ∙ ap (λ (s : Step). step_of s (place_of c.next.new.at)) c.in-Stuck.is

pub returns-in_ok-push-in-Ends : goal.returns-in_ok-push-in-Ends
returns-in_ok-push-in-Ends c =
    let piece = c.in-Ends.piece in (
      Some (piece_of piece),
      record {
        kind = kind_of c.in-Some.kind;
        is = c.in-Some.ensures;
        leads = sym c.in_ok-next.ensures ∙ ap (λ (s : Step). step_of s (place_of c.next.new.at)) c.in-Ends.is;
      },
      piece_more c.args.pieces.now.items c.push.new.self.items (Some piece) c.in_ok-push-in-Ends.ensures.items,
    )
