use Rattle.std.proofs.Common.{map, refl}
use Rattle.hm_replica.specs.Replicas.{typed_value}
use Rattle.hm_run_sides.proofs.OpenedReplicas.{closes_told}
use Rattle.hm_run_sides.proofs.replicas.close_base_by.Goals as goal

pub returns-in-Ok : goal.returns-in-Ok
returns-in-Ok g c = λ r base replica. (c.in-Ok.ensures r base replica, refl)

pub returns-in-Err : goal.returns-in-Err
returns-in-Err g c = λ r base replica. rw c.write_stop.ensures
    (closes_told ((goal.Format-dyn g (c.args.format.now.vtable, c.args.format.now.value)).means c.args.format.now.value)
    (map (λ b. (goal.TextLens-dyn g (b.vtable, b.value)).meaning b.value) c.args.texts.now) (typed_value c.args.typed.now) c.args.slot
    r c.args.view c.in-Err.fault (c.in-Err.ensures r base replica))
