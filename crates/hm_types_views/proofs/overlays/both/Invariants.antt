use Rattle.std.proofs.Common.{◌≡◌, ◌++◌, take}
use Rattle.std.specs.List.{filter}
use Rattle.std.specs.FinSet.{contains}
use Rattle.hm_types_views.proofs.overlays.both.Given as goal

abbrev pub invariant-loop-one : goal.invariant-loop-one
invariant-loop-one l = l.all.items ≡ filter (λ k. contains l.names k) (take l.one-index l.ones)

abbrev pub invariant-loop-two : goal.invariant-loop-two
invariant-loop-two l = l.all.items ≡ filter (λ k. contains l.names k) l.ones ++ take l.two-index l.twos
