use Rattle.std.proofs.Common.{◌≡◌, map, drop, find}
use Rattle.hm_run_files.specs.Files.{new_of, is_overgrown}
use Rattle.hm_run_files.proofs.measure.measure_all.Given as goal

-- those that are left decide
abbrev pub invariant-loop-file : goal.invariant-loop-file
invariant-loop-file l = find is_overgrown (map new_of (drop l.file-index l.files)) ≡ find is_overgrown (map new_of l.files)
