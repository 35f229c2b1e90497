use Rattle.std.proofs.Common.{◌≡◌, All, take}
use Rattle.hm_types_views.proofs.hiding.all_are.Given as goal

abbrev pub invariant-loop-twin : goal.invariant-loop-twin
invariant-loop-twin l = All (λ twin. twin ≡ (l.first, l.second)) (take l.twin-index l.twins)
