use Rattle.std.proofs.Common.{◌++◌, ◌∷◌, [], sym, ap, subst, ◌∙◌}
use Rattle.std.specs.Str.{IsUtf8}
use Rattle.hm_tree.specs.Archives.{recorded}
use Rattle.hm_tree_text.specs.Text.{text, whole}
use Rattle.hm_tree_text.proofs.Laws.{archive_text-recorded}
use Rattle.hm_tree_text.proofs.TextUtf8.{tree_text_utf8}
use Rattle.hm_tree_text.proofs.writer.write_tree.Goals as goal

pub returns-clause-value : goal.returns-clause-value
returns-clause-value c =
    c.in_ok-push.ensures.items
    ∙ ap (λ l. l ++ 10 ∷ []) (c.in_ok-put_whole.ensures ∙ ap (λ l. l ++ text whole (recorded c.args.tree.now).shape) c.new-text.ensures.items)
    ∙ archive_text-recorded c.args.tree.now

pub returns-clause-utf8 : goal.returns-clause-utf8
returns-clause-utf8 c = subst IsUtf8 (sym (returns-clause-value c)) (tree_text_utf8 c.args.tree.now)
