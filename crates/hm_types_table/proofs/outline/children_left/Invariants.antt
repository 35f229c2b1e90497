use Rattle.std.proofs.Common.{◌≡◌, take}
use Rattle.hm_types_table.specs.Tables.{keys}
use Rattle.hm_types_table.specs.Classes.{left}
use Rattle.hm_types_table.proofs.outline.children_left.Given as goal

abbrev pub invariant-loop-place : goal.invariant-loop-place
invariant-loop-place l = keys l.children.items ≡ left l.all (take l.place l.standing) (take l.place l.names)
