use Rattle.std.proofs.Common.{◌≡◌, ◌==◌, drop}
use Rattle.std.specs.List.{position_from}
use Rattle.hm_run_sides.proofs.formats.first_of.Given as goal

abbrev pub invariant-loop-place : goal.invariant-loop-place
invariant-loop-place g l =
    position_from (λ b. ((goal.Format-dyn g (b.vtable, b.value)).means b.value).tag == l.tag) l.place (drop l.place l.formats) ≡ position_from (λ b. ((goal.Format-dyn g (b.vtable, b.value)).means b.value).tag == l.tag) 0 l.formats
