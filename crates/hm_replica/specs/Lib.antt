pub mod Replicas
pub mod Bases
