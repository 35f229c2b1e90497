mod Edges
pub mod OneList
mod Items
mod Merged
pub mod Maps
pub mod OneEdge
mod Examples
