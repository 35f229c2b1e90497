use Rattle.std.proofs.Common.{◌≡◌, List, ◌∷◌, ◌++◌, [], ap, ◌∙◌, subst}
use Rattle.std.specs.Prelude.{OnOk}
use Rattle.hm_lines_cards.specs.Lines.{Line}
use Rattle.hm_lines_cards.specs.Lent.{line_of, lent, plain}
use Rattle.hm_lines_cards.specs.Rewriting.{new_line, rewritten}
use Rattle.hm_lines_files.specs.WrittenLines.{Extends}
use Rattle.hm_lines_files.proofs.Passes.{blank_are}
use Rattle.hm_lines_files.proofs.rewriting.append_new_item.Goals as goal

pub append_item-requires : goal.append_item-requires
append_item-requires c =
    let k = c.args.template.now in
    let line : line_of c.key_line.result ≡ new_line k.key c.args.key.now = c.key_line.ensures k.key c.args.key.now c.requires.word (c.deref.ensures ∙ c.in_ok-text.ensures) in
    blank_are k.key c.args.key.now c.requires.word k.front.items k.more.items c.deref-2.result.now c.requires.front c.requires.more
    (ap lent c.deref-2.ensures.value ∙ c.in_ok-lines.ensures ∙ ap (λ (l : Line). lent k.front.items ++ l ∷ lent k.more.items) line)

pub returns : goal.returns
returns c =
    let k = c.args.template.now in
    let line : line_of c.key_line.result ≡ new_line k.key c.args.key.now = c.key_line.ensures k.key c.args.key.now c.requires.word (c.deref.ensures ∙ c.in_ok-text.ensures) in
    subst (λ (ls : List Line). OnOk c.append_item.result (Extends c.args.writer.now c.append_item.new.writer (plain (rewritten c.args.shown.now c.args.tree.now ls) ++ k.end.now ∷ [])))
    (ap lent c.deref-2.ensures.value ∙ c.in_ok-lines.ensures ∙ ap (λ (l : Line). lent k.front.items ++ l ∷ lent k.more.items) line) c.append_item.ensures
