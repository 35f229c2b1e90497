use Rattle.std.proofs.Common.{[]}
use Rattle.std.proofs.lemmas.List.Elements.{All-head}
use Rattle.hm_lines_files.specs.Components.{HasKey}
use Rattle.hm_lines_files.specs.Lent.{component_of, template_of}
use Rattle.hm_lines_files.proofs.WrittenLines.{ok_then, extends_as}
use Rattle.hm_lines_files.proofs.Passes.{remaining_item}
use Rattle.hm_lines_files.proofs.rewriting.append_piece.Goals as goal

pub append_old_item-requires-clause-keyed : goal.append_old_item-requires-clause-keyed
append_old_item-requires-clause-keyed c = All-head (HasKey c.args.template.now.key) (component_of c.in-Item.component) [] (rw c.in-Item.is at c.requires.keyed)

pub returns-in-Other-clause-lines : goal.returns-in-Other-clause-lines
returns-in-Other-clause-lines c =
    rw c.in-Other.is (ok_then c.append.result c.append.ensures (λ one lists before h. one))

pub returns-in-Item-clause-taken : goal.returns-in-Item-clause-taken
returns-in-Item-clause-taken c = rw c.in-Item.is c.append_old_item.ensures.taken

pub returns-in-Item-clause-lines : goal.returns-in-Item-clause-lines
returns-in-Item-clause-lines c =
    rw c.in-Item.is
    (ok_then c.append_old_item.result c.append_old_item.ensures.lines (λ shown lists before h.
    extends_as c.args.writer.now c.append_old_item.new.writer _ _ (remaining_item (template_of c.args.template.now) c.args.shown.now lists before (component_of c.in-Item.component)) (shown lists before h)))
