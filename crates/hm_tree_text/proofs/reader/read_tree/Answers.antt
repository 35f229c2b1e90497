use Rattle.hm_tree_text.specs.Files.{IsTreeText}
use Rattle.hm_tree_text.specs.Faults.{TreeFaults}
use Rattle.hm_tree_text.proofs.Laws.{read_as}
use Rattle.hm_tree_text.proofs.Reached.{if_ok, if_err}
use Rattle.hm_tree_text.proofs.Whole.{tree_read, tree_faults}
use Rattle.hm_tree_text.proofs.reader.read_tree.Goals as goal

pub returns : goal.returns
returns c =
    read_as IsTreeText TreeFaults c.args.bytes.now c.read_file.result
    (if_ok _ _ c.read_file.result (λ tree h. tree_read tree _ h) c.read_file.ensures.text)
    (if_err _ _ c.read_file.result (λ fault h. tree_faults _ fault h) c.read_file.ensures.fault)
