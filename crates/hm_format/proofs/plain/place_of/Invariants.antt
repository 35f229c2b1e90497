use Rattle.std.proofs.Common.{◌≡◌, ◌+◌, drop}
use Rattle.hm_format.specs.Options.{place_of}
use Rattle.hm_format.proofs.plain.place_of.Given as goal

abbrev pub invariant-loop-place : goal.invariant-loop-place
invariant-loop-place l = l.place + place_of l.name (drop l.place l.names) ≡ place_of l.name l.names
