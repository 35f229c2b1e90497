use Rattle.std.proofs.Common.{◌+◌, ◌*◌, ◌-◌, length}
use Rattle.hm_tree_text.proofs.Gathering.{Stacked}
use Rattle.hm_tree_text.proofs.reader.+reading.Given as goal

abbrev pub decreases-read_below : goal.decreases-read_below
decreases-read_below g l = 3 * l.room

abbrev pub decreases-read_edge : goal.decreases-read_edge
decreases-read_edge g l = 3 * l.room + 1

abbrev pub decreases-read_inside : goal.decreases-read_inside
decreases-read_inside g l = 3 * l.room + 2

abbrev pub invariant-read_inside-loop-edge : goal.invariant-read_inside-loop-edge
invariant-read_inside-loop-edge g l = Stacked g.B.Built.value g.B.Built.marks l.room l.bytes l.at l.fn.pending.items l.pending.items l.start l.end

abbrev pub decreases-read_inside-loop-edge : goal.decreases-read_inside-loop-edge
decreases-read_inside-loop-edge g l = length l.bytes - l.end
