use Rattle.std.proofs.Common.{map, take}
use Rattle.hm_lines.specs.Folding.{AreFolded}
use Rattle.hm_lines.specs.Shown.{bytes_of}
use Rattle.hm_lines.proofs.folding.fold.Given as goal

abbrev pub invariant-loop-line : goal.invariant-loop-line
invariant-loop-line l = AreFolded (map bytes_of (take l.line-index l.lines)) l.folded.items
