use Rattle.hm_netscape_files.specs.Heads.{begins_list, NoneBefore}
use Rattle.hm_netscape_files.proofs.heads.list_place.Given as goal

abbrev pub invariant-loop-place : goal.invariant-loop-place
invariant-loop-place l = NoneBefore begins_list l.place l.bytes
