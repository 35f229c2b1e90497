use Rattle.std.proofs.Common.{take}
use Rattle.hm_lines_files.specs.Lent.{texts, pieces_of}
use Rattle.hm_ical.specs.Scanning.{Runs, before}
use Rattle.hm_ical.specs.Lent.{place_of}
use Rattle.hm_ical.proofs.layout.pieces.Given as goal

abbrev pub invariant-loop-place : goal.invariant-loop-place
invariant-loop-place l = Runs l.singles before (take l.place (texts l.lines)) (pieces_of l.pieces.items) (place_of l.at)
