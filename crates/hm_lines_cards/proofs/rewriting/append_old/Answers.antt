use Rattle.std.proofs.Common.{◌∙◌, ◌<◌, ◌++◌, ◌∷◌, [], length, get_or, None, sym, ap, subst, append-nil}
use Rattle.std.specs.Prelude.{Vec}
use Rattle.std.specs.declared.alloc.Global.{Global}
use Rattle.std.proofs.lemmas.List.{map-append, length-map, get_or_default}
use Rattle.hm_lines_cards.specs.declared.line.NewLine.{NewLine}
use Rattle.hm_lines_cards.specs.Lent.{line_of, lent, bytes_of, bytes_in, all_bytes}
use Rattle.hm_lines_cards.proofs.NewLines.{old_more}
use Rattle.hm_lines_cards.proofs.rewriting.append_old.Goals as goal
use Rattle.hm_lines_cards.proofs.rewriting.append_old.Goals.{in-Some+in_ok-push, in_default}

pub loop-place-preserved : goal.loop-place-preserved
loop-place-preserved c =
    let lt : c.loop-place.place < length (lent c.args.lines.now) =
    subst (λ n. c.loop-place.place < n) (sym (length-map c.args.lines.now line_of)) c.loop-place-test.true in
    let is = get_or_default (lent c.args.lines.now) c.loop-place.place ([], None) (get_or (lent c.args.lines.now) c.loop-place.place ([], None)) lt in
    elim c.match-branch-2.branch [
      | in-Some+in_ok-push w ↦
          old_more c.args.properties.now c.args.card.now (lent c.args.lines.now) c.loop-place.place (get_or (lent c.args.lines.now) c.loop-place.place ([], None)) lt is
          (all_bytes c.args.new.now.items) (all_bytes c.loop-place.new.items) (all_bytes c.match-branch-2.new.items) (bytes_in c.in_ok-line.field-0)
          c.loop-place.invariant c.in_ok-line.ensures
          (ap (λ (v : Vec NewLine Global). all_bytes v.items) w.new-is ∙ ap all_bytes w.in_ok-push.ensures.items
          ∙ map-append bytes_of c.loop-place.new.items (w.in-Some.line ∷ [])
          ∙ sym (ap (λ o. all_bytes c.loop-place.new.items ++ bytes_in o) w.in-Some.is))
      | in_default w ↦
          old_more c.args.properties.now c.args.card.now (lent c.args.lines.now) c.loop-place.place (get_or (lent c.args.lines.now) c.loop-place.place ([], None)) lt is
          (all_bytes c.args.new.now.items) (all_bytes c.loop-place.new.items) (all_bytes c.match-branch-2.new.items) (bytes_in c.in_ok-line.field-0)
          c.loop-place.invariant c.in_ok-line.ensures
          (ap (λ (v : Vec NewLine Global). all_bytes v.items) w.new-is ∙ sym (append-nil (all_bytes c.loop-place.new.items))
          ∙ sym (ap (λ o. all_bytes c.loop-place.new.items ++ bytes_in o) w.in_default.is))
    ]
