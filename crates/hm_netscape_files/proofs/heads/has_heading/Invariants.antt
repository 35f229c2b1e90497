use Rattle.hm_netscape_files.specs.Heads.{begins_heading, NoneBefore}
use Rattle.hm_netscape_files.proofs.heads.has_heading.Given as goal

abbrev pub invariant-loop-place : goal.invariant-loop-place
invariant-loop-place l = NoneBefore begins_heading l.place l.bytes
