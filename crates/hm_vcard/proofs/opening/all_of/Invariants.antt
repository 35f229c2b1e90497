use Rattle.std.proofs.Common.{◌≡◌, ◌≤◌, ◌-◌, length}
use Rattle.hm_lines_files.specs.Lent.{texts, pieces_of, HaveLines}
use Rattle.hm_vcard.specs.Cards as spec
use Rattle.hm_vcard.specs.Opening.{AreFront}
use Rattle.hm_vcard.proofs.opening.all_of.Given as goal

abbrev pub invariant-loop-from : goal.invariant-loop-from
invariant-loop-from l = record {
  single : l.single ≡ spec.single;
  front : AreFront (texts l.lines) l.from (pieces_of l.pieces.items);
  lines : HaveLines l.pieces.items;
  within : l.from ≤ length l.lines;
}

abbrev pub decreases-loop-from : goal.decreases-loop-from
decreases-loop-from l = length l.lines - l.from
