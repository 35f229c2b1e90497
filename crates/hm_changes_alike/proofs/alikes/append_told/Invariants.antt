use Rattle.std.proofs.Common.{◌≡◌, ◌++◌, take}
use Rattle.hm_alike.specs.Groups.{lent_lists}
use Rattle.hm_changes_alike.specs.Staying.{seen}
use Rattle.hm_changes_alike.specs.Below.{told_sets}
use Rattle.hm_changes_alike.proofs.alikes.append_told.Given as goal

abbrev pub invariant-loop-class : goal.invariant-loop-class
invariant-loop-class l = l.sets.items
    ≡ l.initial.sets.items ++ told_sets (seen l.left) (seen l.right) l.parent (lent_lists (take l.class-index l.classes.items))
