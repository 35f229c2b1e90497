use Rattle.std.proofs.Common.{◌≡◌, [], ap, length, eq-eqb}
use Rattle.hm_tree_text.specs.Files.{IsArchiveText}
use Rattle.hm_tree_text.specs.Faults.{ArchiveFaults}
use Rattle.hm_tree_text.proofs.Laws.{read_as}
use Rattle.hm_tree_text.proofs.Reached.{if_ok, if_err}
use Rattle.hm_tree_text.proofs.Whole.{archive_read, archive_faults}
use Rattle.hm_tree_text.proofs.reader.read_archive.Goals as goal

pub returns : goal.returns
returns c =
    let some : c.args.bytes.now ≡ [] → ⊥ = λ e. let t = eq-eqb (length c.args.bytes.now) 0 (ap length e) in cc in
    read_as IsArchiveText ArchiveFaults c.args.bytes.now c.read_file.result
    (if_ok _ _ c.read_file.result (λ archive h. archive_read archive _ h) c.read_file.ensures.text)
    (if_err _ _ c.read_file.result (λ fault h. archive_faults _ some fault h) c.read_file.ensures.fault)
