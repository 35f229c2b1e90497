use Rattle.hm_outside.proofs.Risen.{risen_by_entry}
use Rattle.hm_outside.proofs.file.FileStoreStore.replace.Goals as goal

pub returns-in-Err-Failed-clause-cause : goal.returns-in-Err-Failed-clause-cause
returns-in-Err-Failed-clause-cause g c is = risen_by_entry _ _ _ _ _ c.in-Ok.entry c.in-Ok.ensures.same c.note.ensures c.in-Ok.ensures.entry.0
    c.in-Ok.ensures.entry.1
