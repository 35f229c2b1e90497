use Rattle.std.proofs.Common.{◌≡◌, map, take}
use Rattle.hm_changes.proofs.walk.append_change.Given as goal

abbrev pub invariant-loop-name : goal.invariant-loop-name
invariant-loop-name l = l.names.items ≡ map (λ n. n.now) (take l.name-index l.here.items)
