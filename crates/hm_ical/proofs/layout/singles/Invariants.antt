use Rattle.std.proofs.Common.{◌≡◌, take}
use Rattle.hm_ical.specs.Events.{singles}
use Rattle.hm_ical.proofs.layout.singles.Given as goal

abbrev pub invariant-loop-property : goal.invariant-loop-property
invariant-loop-property l = l.singles.items ≡ singles (take l.property-index l.shown)
