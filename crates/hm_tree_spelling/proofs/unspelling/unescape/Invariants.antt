use Rattle.std.proofs.Common.{◌≡◌, ◌≤◌, ◌-◌, length, take}
use Rattle.hm_tree_spelling.specs.Spelling.{escaped}
use Rattle.hm_tree_spelling.proofs.unspelling.unescape.Given as goal

abbrev pub invariant-loop-at : goal.invariant-loop-at
invariant-loop-at l = record { within : l.at ≤ length l.bytes; read : take l.at l.bytes ≡ escaped l.text.items }

abbrev pub decreases-loop-at : goal.decreases-loop-at
decreases-loop-at l = length l.bytes - l.at
