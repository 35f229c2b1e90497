use Rattle.std.proofs.Common.{map}
use Rattle.hm_replica.specs.Replicas.{typed_value, replica_value}
use Rattle.hm_run_sides.proofs.OpenedReplicas.{closes_told}
use Rattle.hm_run_sides.proofs.replicas.close_by.Goals as goal

pub returns-in-Err : goal.returns-in-Err
returns-in-Err g c = rw c.write_stop.ensures
    (closes_told ((goal.Format-dyn g (c.args.format.now.vtable, c.args.format.now.value)).means c.args.format.now.value)
    (map (λ b. (goal.TextLens-dyn g (b.vtable, b.value)).meaning b.value) c.args.texts.now) (typed_value c.args.typed.now) c.args.slot
    (replica_value c.args.replica) c.args.view c.in-Err.fault c.in-Err.ensures)
