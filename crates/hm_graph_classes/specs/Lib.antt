pub mod Reduced
pub mod Indexed
pub mod Partitions
pub mod Calm
pub mod Apart
