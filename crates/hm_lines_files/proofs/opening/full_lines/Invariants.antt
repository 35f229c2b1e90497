use Rattle.std.proofs.Common.{◌≡◌, ◌++◌, length}
use Rattle.std.specs.Prelude.{IsUtf8}
use Rattle.hm_lines.specs.Unfolding.{lines}
use Rattle.hm_lines_files.specs.Files.{full}
use Rattle.hm_lines_files.specs.Lent.{texts}
use Rattle.hm_lines_files.proofs.opening.full_lines.Given as goal

abbrev pub decreases-loop-rest : goal.decreases-loop-rest
decreases-loop-rest l = length l.rest

abbrev pub invariant-loop-rest : goal.invariant-loop-rest
invariant-loop-rest l = record {
  utf8 : IsUtf8 l.rest;
  left : texts l.found.items ++ full (lines l.rest) ≡ full (lines l.text);
}
