pub mod Parting
pub mod Joining
pub mod Branching
pub mod Merging
pub mod Copying
