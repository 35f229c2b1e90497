use Rattle.std.proofs.Common.{◌≡◌, Result, Ok, subst}
use Rattle.hm_tree.specs.Nodes.{Tree}
use Rattle.hm_format.specs.declared.fault.FormatFault.{FormatFault}
use Rattle.hm_json_marks.specs.Files.{JsonReads}
use Rattle.hm_json_marks.proofs.ReadOnce.{read_once}
use Rattle.hm_json_marks.proofs.writing.is_read_as.Goals as goal

pub returns-in-Ok : goal.returns-in-Ok
returns-in-Ok c = λ text utf8 document.
    let read = c.in-Ok.ensures text utf8 document in (
      λ same. subst (λ (t : Tree). JsonReads text (Ok t)) (c.same.ensures.0 same) read,
      λ also. c.same.ensures.1 (let one : ◌≡◌ {A = Result Tree FormatFault} (Ok c.in-Ok.old) (Ok c.args.tree.now) = read_once text (Ok c.in-Ok.old) (Ok c.args.tree.now) read also in cc),
    )
