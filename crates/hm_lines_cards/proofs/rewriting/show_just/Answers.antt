use Rattle.std.proofs.Common.{◌+◌, ◌∷◌, List, drop, map, sym, ap, ◌∙◌}
use Rattle.std.specs.Borrow.{Bor}
use Rattle.std.specs.List.{cons_option}
use Rattle.hm_tree.specs.Names.{Name}
use Rattle.hm_tree.specs.Nodes.{Tree}
use Rattle.hm_lines_cards.specs.Lines.{texts_of}
use Rattle.hm_lines_cards.specs.Lent.{lent}
use Rattle.hm_lines_cards.proofs.LentLines.{texts_left}
use Rattle.hm_lines_cards.proofs.rewriting.show_just.Goals as goal
use Rattle.hm_lines_cards.proofs.rewriting.show_just.Goals.{in-Some+in-Some-behind+in-Long-1, in-Some+in-Some-behind+in-Short-1, in_default}

pub loop-line-preserved : goal.loop-line-preserved
loop-line-preserved c = λ same.
    let name = c.args.name.now in
    let rest = texts_of name (lent (drop (c.loop-line.line-index + 1) c.args.lines.now)) in
    let names : Bor (List (Name × Tree)) → List Name = λ l. map (λ (e : Name × Tree). e.0) l.now in
    let left = texts_left name c.args.lines.now c.loop-line.line-index _ c.loop-line-test.true c.in_ok-text.field-0 c.in_ok-text.ensures in
    elim c.match-branch-2.branch [
      | in-Some+in-Some-behind+in-Long-1 w ↦
          c.loop-line.invariant
          (left ∙ ap (λ o. cons_option o rest) w.in-Some.is ∙ ap (λ ts. w.in-Some.text ∷ ts) (same ∙ ap names w.left-is) ∙ sym w.in-Some-behind.ensures)
      | in-Some+in-Some-behind+in-Short-1 w ↦
          c.loop-line.invariant
          (left ∙ ap (λ o. cons_option o rest) w.in-Some.is ∙ ap (λ ts. w.in-Some.text ∷ ts) (same ∙ ap names w.left-is) ∙ sym w.in-Some-behind.ensures)
      | in_default w ↦ c.loop-line.invariant (left ∙ ap (λ o. cons_option o rest) w.in_default.is ∙ same ∙ ap names w.left-is)
    ]
