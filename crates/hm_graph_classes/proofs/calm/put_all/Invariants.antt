use Rattle.std.proofs.Common.{take}
use Rattle.hm_graph_classes.specs.Calm.{ArePut}
use Rattle.hm_graph_classes.proofs.calm.put_all.Given as goal

abbrev pub invariant-loop-place : goal.invariant-loop-place
invariant-loop-place l = ArePut l.initial.lists.items l.lists.items (take l.place-index l.places) l.number
