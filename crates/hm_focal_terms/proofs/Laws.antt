-- What the crates above cite.
pub use Rattle.hm_focal_terms.proofs.TermsOnce.{one_term}
pub use Rattle.hm_focal_terms.proofs.Written.{writable_reads, written_reads}
