use Rattle.std.proofs.Common.{map}
use Rattle.std.proofs.lemmas.Option.{slice_get_within}
use Rattle.hm_replica.specs.Replicas.{replica_value}
use Rattle.hm_run_handed.specs.Handed.{handed_in}
use Rattle.hm_run_sides.specs.Sides.{side_value, seen}
use Rattle.hm_run_sides.proofs.OpenedReplicas.{opens_on, opened_on}
use Rattle.hm_run_sides.proofs.replicas.open_replica.Goals as goal

pub returns-clause-opens : goal.returns-clause-opens
returns-clause-opens g c =
    opens_on (handed_in c.args.given (λ o. (goal.Format-dyn g o).means o.1) (λ o. (goal.TextLens-dyn g o).meaning o.1)) (side_value c.args.side.now)
    c.index-formats-side.result (slice_get_within c.args.given.formats.now c.args.side.now.place c.requires.format c.requires.is) c.index-formats-side.is
    c.args.slot c.args.bytes.items (seen replica_value c.open_by.result) c.open_by.ensures.opens

pub returns-clause-replica : goal.returns-clause-replica
returns-clause-replica g c =
    opened_on (handed_in c.args.given (λ o. (goal.Format-dyn g o).means o.1) (λ o. (goal.TextLens-dyn g o).meaning o.1)) (side_value c.args.side.now)
    c.index-formats-side.result (slice_get_within c.args.given.formats.now c.args.side.now.place c.requires.format c.requires.is) c.index-formats-side.is
    c.args.slot c.args.bytes.items c.open_by.result c.open_by.ensures.opens
