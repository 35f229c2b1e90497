use Rattle.std.proofs.Common.{◌≡◌, ◌++◌, ◌∷◌, [], sym, ap, subst, ◌∙◌}
use Rattle.std.specs.Str.{IsUtf8}
use Rattle.hm_tree_text.specs.Text.{text, whole, archive_text}
use Rattle.hm_tree_text.specs.Writing.{present}
use Rattle.hm_tree_text.proofs.Putting.{archive_text_present}
use Rattle.hm_tree_text.proofs.TextUtf8.{archive_text_utf8}
use Rattle.hm_tree_text.proofs.writer.write_archive.Goals as goal

pub returns : goal.returns
returns c =
    let value : c.push.new.self.items ≡ archive_text c.args.archive.now =
    c.in_ok-push.ensures.items
    ∙ ap (λ l. l ++ 10 ∷ []) (c.in_ok-put_whole.ensures ∙ ap (λ l. l ++ text whole (present c.args.archive.now).shape) c.new-text.ensures.items)
    ∙ archive_text_present c.args.archive.now (λ none. c.in_default.not-Missing (c.root.ensures ∙ none)) in
    record { value = value; utf8 = subst IsUtf8 (sym value) (archive_text_utf8 c.args.archive.now) }
