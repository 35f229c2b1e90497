-- What the crates above cite: a lens file, its view and a replica each come to one thing alone, a replica whose view stays keeps its
-- bytes, and a step that stopped stops all, also where its value is seen by what it stands for.
pub use Rattle.hm_run_sides.proofs.Seeing.{stopped_seen}
pub use Rattle.hm_run_sides.proofs.Once.{side_once, view_once}
pub use Rattle.hm_run_sides.proofs.OpenedReplicas.{opens_once, closes_once, stays_on}
