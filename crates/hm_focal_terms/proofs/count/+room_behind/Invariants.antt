use Rattle.std.proofs.Common.{◌≡◌, ◌+◌, drop}
use Rattle.hm_terms.specs.Programs.{lenses_of}
use Rattle.hm_focal_terms.specs.Limits.{terms_in}
use Rattle.hm_focal_terms.proofs.count.+room_behind.Given as goal

abbrev pub invariant-loop-term : goal.invariant-loop-term
invariant-loop-term l =
    l.left + terms_in (lenses_of l.term-items) ≡ l.initial.left + terms_in (lenses_of (drop l.term-index l.term-items))
