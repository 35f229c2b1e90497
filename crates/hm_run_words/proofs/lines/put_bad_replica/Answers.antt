use Rattle.std.proofs.Common.{◌++◌, codes}
use Rattle.hm_run_words.specs.Lines.{slot_name, replica_fault_text}
use Rattle.hm_run_words.proofs.Behind.{behind_both}
use Rattle.hm_run_words.proofs.lines.put_bad_replica.Goals as goal

pub returns : goal.returns
returns c = behind_both _ _ _ _ (codes "BadReplica " ++ slot_name c.args.slot) (codes " ") (replica_fault_text c.args.fault.now)
    c.in_ok-put_slot.ensures c.put_replica_fault.ensures
