-- What the crates above cite: where the view is that of the replica, its own bytes are those that are written.
pub use Rattle.hm_replica.proofs.Closing.{stays}
