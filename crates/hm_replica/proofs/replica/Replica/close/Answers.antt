use Rattle.std.proofs.Common.{map}
use Rattle.hm_replica.specs.Replicas.{typed_value, replica_value}
use Rattle.hm_replica.proofs.Closing.{stays}
use Rattle.hm_replica.proofs.replica.Replica.close.Goals as goal

pub close-requires-clause-replica : goal.close-requires-clause-replica
close-requires-clause-replica g c = (replica_value c.args.self, c.into_base.ensures, c.requires.replica)

pub returns : goal.returns
returns g c = c.close.ensures (replica_value c.args.self) c.into_base.ensures c.requires.replica

pub returns-then-same : goal.returns-then-same
returns-then-same g c =
    stays ((goal.Format-dyn g (c.args.format.now.vtable, c.args.format.now.value)).means c.args.format.now.value)
    (map (λ b. (goal.TextLens-dyn g (b.vtable, b.value)).meaning b.value) c.args.texts.now) (typed_value c.args.typed.now) c.laws.ensures
    c.requires.typed (replica_value c.args.self) c.requires.replica c.args.shown c.requires.member (c.same.ensures.0 c.if-same.true)
