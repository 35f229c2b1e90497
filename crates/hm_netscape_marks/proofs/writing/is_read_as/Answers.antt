use Rattle.std.proofs.Common.{◌≡◌, Result, Ok, subst}
use Rattle.hm_tree.specs.Nodes.{Tree}
use Rattle.hm_format.specs.declared.fault.FormatFault.{FormatFault}
use Rattle.hm_netscape_files.specs.Files.{NetscapeReads}
use Rattle.hm_netscape_files.proofs.ReadOnce.{read_once}
use Rattle.hm_netscape_marks.proofs.writing.is_read_as.Goals as goal

pub returns-in-Ok : goal.returns-in-Ok
returns-in-Ok c = (
  λ same. subst (λ (t : Tree). NetscapeReads c.args.bytes.now (Ok t)) (c.same.ensures.0 same) c.in-Ok.ensures,
  λ read. c.same.ensures.1 (let one : ◌≡◌ {A = Result Tree FormatFault} (Ok c.in-Ok.old) (Ok c.args.tree.now) = read_once c.args.bytes.now (Ok c.in-Ok.old) (Ok c.args.tree.now) c.in-Ok.ensures read in cc),
)
