use Rattle.std.proofs.Common.{◌≡◌, [], ◌∷◌, ap, sym, ◌∙◌, subst}
use Rattle.hm_lines_cards.specs.Lent.{plain, lent, all_bytes}
use Rattle.hm_lines_cards.specs.Rewriting.{rewritten}
use Rattle.hm_lines_files.specs.WrittenLines.{Extends}
use Rattle.hm_lines_files.specs.declared.writer.Writer.{Writer}
use Rattle.hm_lines_files.proofs.WrittenLines.{extends_as, extends_behind}
use Rattle.hm_lines_files.proofs.rewriting.append_item.Goals as goal
use Rattle.hm_lines_files.proofs.rewriting.append_item.Goals.{in-Some+in_ok-append_made-in-Some, in-None+in_ok-append_kept-in-None}

pub returns : goal.returns
returns c =
    let from = c.args.writer.now in
    let to = c.match-branch-2.writer in
    let old = lent c.args.lines.now in
    let new = rewritten c.args.shown.now c.args.tree.now old in
    let so_far : Extends from to (plain new)
    = elim c.match-branch-2.branch [
      | in-Some+in_ok-append_made-in-Some w ↦
          let made : all_bytes w.in-Some.new.items ≡ plain new = rw w.in-Some.is at c.in_ok-new.ensures in
          extends_as from to (all_bytes w.deref.result.now) (plain new) (ap all_bytes w.deref.ensures.value ∙ made)
          (subst (λ (writer : Writer). Extends from writer (all_bytes w.deref.result.now)) (sym w.writer-is) w.in_ok-append_made-in-Some.ensures)
      | in-None+in_ok-append_kept-in-None w ↦
          let stays : new ≡ old = rw w.in-None.is at c.in_ok-new.ensures in
          extends_as from to (plain old) (plain new) (ap plain (sym stays))
          (subst (λ (writer : Writer). Extends from writer (plain old)) (sym w.writer-is) w.in_ok-append_kept-in-None.ensures)
    ] in
    extends_behind from to c.append.new.self c.append.result (plain new) (c.args.end.now ∷ []) so_far c.append.ensures
