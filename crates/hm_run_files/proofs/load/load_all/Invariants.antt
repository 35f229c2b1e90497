use Rattle.std.proofs.Common.{◌≡◌, length, map, take}
use Rattle.hm_run_files.specs.Files.{file_of, all_bytes}
use Rattle.hm_run_files.proofs.Loading.{AreLoaded}
use Rattle.hm_run_files.proofs.load.load_all.Given as goal

abbrev pub invariant-loop-file : goal.invariant-loop-file
invariant-loop-file g l = (length l.loaded.items ≡ l.file-index)
    × AreLoaded (g.S.Store.contents l.initial.store) (g.S.Store.contents l.store) (g.S.Store.failed l.initial.store) (g.S.Store.failed l.store)
    (map file_of (take l.file-index l.files)) (all_bytes l.loaded)
