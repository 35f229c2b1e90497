-- What a new view of a replica is put over.
use Rattle.std.specs.Prelude.{◌≡◌, Some, None, MatchOption}
use Rattle.hm_replica.specs.declared.base.Base.{Base}
use Rattle.hm_replica.specs.Replicas.{ReplicaValue}

-- the bytes of a replica, with its tree and its view where it has its tree
pub record IsBase (r : ReplicaValue) (b : Base) : Type 0 where
  pub bytes : b.bytes.items ≡ r.bytes
  pub kept : MatchOption b.kept (r.concrete ≡ None) (λ k. (r.concrete ≡ Some k.0) × (k.1 ≡ r.view))
