use Rattle.std.proofs.Common.{◌≡◌, drop, find, map}
use Rattle.hm_run_files.specs.Files.{file_of}
use Rattle.hm_run_words.specs.Words.{clash}
use Rattle.hm_run_words.proofs.pairs.first_same.Given as goal

-- those that are left decide
abbrev pub invariant-loop-other : goal.invariant-loop-other
invariant-loop-other l =
    find (clash (file_of l.file)) (map file_of (drop l.other-index l.others))
    ≡ find (clash (file_of l.file)) (map file_of l.others)
