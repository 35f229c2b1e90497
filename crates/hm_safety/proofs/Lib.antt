pub mod SmallTrees
mod Examples
pub mod Shallow
