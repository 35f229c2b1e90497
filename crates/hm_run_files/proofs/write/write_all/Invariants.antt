use Rattle.std.proofs.Common.{map, take}
use Rattle.hm_run_files.specs.Files.{new_of}
use Rattle.hm_run_files.proofs.Writing.{AreWritten}
use Rattle.hm_run_files.proofs.write.write_all.Given as goal

abbrev pub invariant-loop-file : goal.invariant-loop-file
invariant-loop-file g l = AreWritten (g.S.Store.contents l.initial.store) (g.S.Store.contents l.store) (g.S.Store.failed l.initial.store)
    (g.S.Store.failed l.store) (map new_of (take l.file-index l.files))
