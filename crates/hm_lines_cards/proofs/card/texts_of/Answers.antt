use Rattle.std.proofs.Common.{◌∙◌, ◌++◌, [], sym, ap, append-nil}
use Rattle.std.specs.Prelude.{Vec}
use Rattle.std.specs.declared.alloc.Global.{Global}
use Rattle.std.specs.List.{cons_option}
use Rattle.hm_tree.specs.Names.{Name}
use Rattle.hm_lines_cards.proofs.LentLines.{texts_more}
use Rattle.hm_lines_cards.proofs.card.texts_of.Goals as goal
use Rattle.hm_lines_cards.proofs.card.texts_of.Goals.{in-Some+in_ok-push, in_default}

pub loop-line-preserved : goal.loop-line-preserved
loop-line-preserved c =
    elim c.match-branch-2.branch [
      | in-Some+in_ok-push w ↦
          texts_more c.args.name.now c.args.lines.now c.loop-line.line-index _ c.loop-line-test.true c.loop-line.texts.items c.match-branch-2.texts.items
          c.loop-line.invariant c.in_ok-text.field-0 c.in_ok-text.ensures
          (ap (λ (v : Vec Name Global). v.items) w.texts-is ∙ w.in_ok-push.ensures.items
          ∙ sym (ap (λ o. c.loop-line.texts.items ++ cons_option o []) w.in-Some.is))
      | in_default w ↦
          texts_more c.args.name.now c.args.lines.now c.loop-line.line-index _ c.loop-line-test.true c.loop-line.texts.items c.match-branch-2.texts.items
          c.loop-line.invariant c.in_ok-text.field-0 c.in_ok-text.ensures
          (ap (λ (v : Vec Name Global). v.items) w.texts-is ∙ sym (append-nil c.loop-line.texts.items)
          ∙ sym (ap (λ o. c.loop-line.texts.items ++ cons_option o []) w.in_default.is))
    ]
