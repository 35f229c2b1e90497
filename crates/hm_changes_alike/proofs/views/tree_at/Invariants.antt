use Rattle.std.proofs.Common.{◌≡◌, drop, Some}
use Rattle.hm_tree.specs.States.{at_path}
use Rattle.hm_changes_alike.proofs.views.tree_at.Given as goal

abbrev pub invariant-loop-name : goal.invariant-loop-name
invariant-loop-name l = at_path (Some l.fn.tree) l.path ≡ at_path (Some l.here) (drop l.name-index l.path)
