use Rattle.std.proofs.Common.{◌≡◌, length}
use Rattle.hm_netscape_entries.specs.Toolbars.{is_toolbar}
use Rattle.hm_netscape_entries.proofs.texts.is_toolbar.Given as goal

abbrev pub decreases-loop-attribute : goal.decreases-loop-attribute
decreases-loop-attribute l = length l.rest

abbrev pub invariant-loop-attribute : goal.invariant-loop-attribute
invariant-loop-attribute l = is_toolbar l.attributes ≡ is_toolbar l.rest
